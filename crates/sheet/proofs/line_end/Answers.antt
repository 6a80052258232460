use Rattle.sheet.proofs.Scans.{scan_more, line_hit, line_none}
use Rattle.sheet.proofs.Runs.{scan_to}
use Rattle.sheet.proofs.line_end.Goals as goal

pub loop-i-init : goal.loop-i-init
loop-i-init c = scan_to c.past_lacking-start.ensures

pub returns-then-s-i-eq10 : goal.returns-then-s-i-eq10
returns-then-s-i-eq10 c = line_hit c.loop-i.invariant c.loop-i-test.true c.if-s-i-eq10.true

pub loop-i-preserved : goal.loop-i-preserved
loop-i-preserved c = scan_more c.loop-i.invariant c.loop-i-test.true c.if-s-i-eq10.false

pub returns : goal.returns
returns c = line_none c.loop-i.invariant c.loop-i-test.false
