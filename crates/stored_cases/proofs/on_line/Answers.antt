use Rattle.stored_cases.proofs.Words.{line_starts, line_lacking, byte_found, line_over, byte_passed}
use Rattle.stored_cases.proofs.on_line.Goals as goal

pub loop-i-init : goal.loop-i-init
loop-i-init c = line_starts _ _ _

pub returns-then-b-end : goal.returns-then-b-end
returns-then-b-end c = byte_found _ _ _ c.loop-i.invariant c.loop-i-test.true c.if-b-end.true

pub returns-then-b-eq10 : goal.returns-then-b-eq10
returns-then-b-eq10 c = line_over _ _ _ c.loop-i.invariant c.loop-i-test.true c.if-b-end.false c.if-b-eq10.true

pub loop-i-preserved : goal.loop-i-preserved
loop-i-preserved c = byte_passed _ _ _ c.loop-i.invariant c.loop-i-test.true c.if-b-end.false c.if-b-eq10.false

pub returns : goal.returns
returns c = line_lacking _ _ _ c.loop-i.invariant c.loop-i-test.false
