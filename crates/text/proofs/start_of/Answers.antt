use Rattle.text.proofs.Trims.{starting, start_end, start_here, start_on}
use Rattle.text.proofs.start_of.Goals as goal

pub loop-at-init : goal.loop-at-init
loop-at-init c = starting _ _

pub returns-then-not-is_dropped : goal.returns-then-not-is_dropped
returns-then-not-is_dropped c = start_here _ c.loop-at.invariant _ c.loop-at-test.true c.char_in-c.ensures c.is_dropped.ensures c.if-not-is_dropped.true-raw

pub loop-at-preserved : goal.loop-at-preserved
loop-at-preserved c = start_on _ c.loop-at.invariant _ c.loop-at-test.true c.char_in-c.ensures c.is_dropped.ensures c.if-not-is_dropped.false-raw

pub returns : goal.returns
returns c = start_end _ c.loop-at.invariant c.loop-at-test.false
