use Rattle.output.proofs.Runs.{run_byte, run_whole}
use Rattle.output.proofs.plain_tail.Goals as goal

pub loop-i-init : goal.loop-i-init
loop-i-init c = c.plain_pieces-a.ensures

pub returns-then-not-is_copied : goal.returns-then-not-is_copied
returns-then-not-is_copied c = c.loop-i.invariant

pub loop-i-preserved : goal.loop-i-preserved
loop-i-preserved c = run_byte c.loop-i.invariant c.loop-i-test.true c.is_copied.ensures c.if-not-is_copied.false-raw

pub returns : goal.returns
returns c = run_whole c.loop-i.invariant c.loop-i-test.false
