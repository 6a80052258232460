use mathlib.Core.Path.{refl}
use Rattle.answers.proofs.Forms.{tells_none, tells_over, tells_other}
use Rattle.answers.proofs.tells_17.Goals as goal

pub returns-in-Err-OverLimits : goal.returns-in-Err-OverLimits
returns-in-Err-OverLimits c = tells_over c.in-Err-OverLimits.is (rw c.in-Err-OverLimits.is at c.in-Err-OverLimits.enum_told_along-1-is)

pub returns-in_default : goal.returns-in_default
returns-in_default c = tells_other c.in_default.is (λ e. (rw (c.in_default.is, e) at c.in_default.in_default-own.refused-1).1 refl)

pub returns-in_default-2 : goal.returns-in_default-2
returns-in_default-2 c = tells_none c.in_default.is
