use Rattle.model.proofs.Searches.{seek_start, seek_hit, seek_miss, seek_end}
use Rattle.model.proofs.next_referrer.Goals as goal

pub loop-i-init : goal.loop-i-init
loop-i-init c = seek_start _ _ _ _

pub returns-then-pairs-at : goal.returns-then-pairs-at
returns-then-pairs-at c = seek_hit c.loop-i.invariant c.loop-i-test.true c.if-pairs-at.true

pub loop-i-preserved : goal.loop-i-preserved
loop-i-preserved c = seek_miss c.loop-i.invariant c.loop-i-test.true c.if-pairs-at.false

pub returns : goal.returns
returns c = seek_end c.loop-i.invariant c.loop-i-test.false
