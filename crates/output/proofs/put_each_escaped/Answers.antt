use Rattle.output.proofs.Puts.{starts, turn, step, ends_in, ends_out}
use Rattle.output.proofs.Texts.{escape_more, escape_none}
use Rattle.output.proofs.put_each_escaped.Goals as goal

pub loop-c-init : goal.loop-c-init
loop-c-init c = starts

pub loop-c-preserved : goal.loop-c-preserved
loop-c-preserved c = step _ (turn (escape_more _ _ c.loop-c-test.true) c.loop-c.invariant) c.put_escaped_byte-n.ensures

pub returns-then-n-out : goal.returns-then-n-out
returns-then-n-out c = ends_in (turn (escape_none _ _ c.loop-c-test.false) c.loop-c.invariant) c.if-n-out.true

pub returns-else-n-out : goal.returns-else-n-out
returns-else-n-out c = ends_out (turn (escape_none _ _ c.loop-c-test.false) c.loop-c.invariant) c.if-n-out.false
