use Rattle.text.proofs.Trims.{ending, end_here, end_on, end_moves}
use Rattle.text.proofs.ends.forward_end.Goals as goal

pub loop-at-init : goal.loop-at-init
loop-at-init c = ending _ _

pub loop-at-preserved-then-not-is_dropped : goal.loop-at-preserved-then-not-is_dropped
loop-at-preserved-then-not-is_dropped c = end_moves _ c.loop-at.invariant _ c.loop-at-test.true c.char_in-c.ensures c.is_dropped.ensures c.if-not-is_dropped.true-raw

pub loop-at-preserved : goal.loop-at-preserved
loop-at-preserved c = end_on _ c.loop-at.invariant _ c.loop-at-test.true c.char_in-c.ensures c.is_dropped.ensures c.if-not-is_dropped.false-raw

pub returns : goal.returns
returns c = end_here _ c.loop-at.invariant c.loop-at-test.false
