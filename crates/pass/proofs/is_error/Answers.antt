use native.Mathlib.Omega.{arith}
use mathlib.Core.Path.{◌≡◌, refl}
use Rattle.pass.proofs.Lines.{error_not, error_severe}
use Rattle.pass.proofs.is_error.Goals as goal

pub returns-in-Finding-Severe-default : goal.returns-in-Finding-Severe-default
returns-in-Finding-Severe-default c = error_severe _ _ c.in-Finding-Severe-default.is (rw c.in-Finding-Severe-default.is at c.in-Finding-Severe-default.field-0-is)

pub returns-in_default : goal.returns-in_default
returns-in_default c = error_not _ (λ n e. let z : 0 ≡ 1 = rw e at c.in_default.in-Mild-own.keys2 in omega (arith, z))

pub returns-in_default-2 : goal.returns-in_default-2
returns-in_default-2 c = error_not _ (λ n e. (rw e at c.in_default.in_default-own.refused-1).1 refl)
