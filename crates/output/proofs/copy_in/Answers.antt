use Rattle.output.proofs.Runs.{copy_start, copy_turn, copy_end}
use Rattle.output.proofs.copy_in.Goals as goal

pub loop-i-init : goal.loop-i-init
loop-i-init c = copy_start c.requires

pub loop-i-preserved : goal.loop-i-preserved
loop-i-preserved c = copy_turn c.loop-i.invariant c.requires c.loop-i-test.true

pub returns : goal.returns
returns c = copy_end c.loop-i.invariant c.loop-i-test.false
