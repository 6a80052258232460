use Rattle.output.proofs.Puts.{one_in, one_out}
use Rattle.output.proofs.put_byte.Goals as goal

pub returns-then-at-out : goal.returns-then-at-out
returns-then-at-out c = one_in _ _ _ c.if-at-out.true

pub returns-else-at-out : goal.returns-else-at-out
returns-else-at-out c = one_out _ _ _ c.if-at-out.false
