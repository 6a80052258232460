use native.Mathlib.Omega.{arith}
use Rattle.sheet.proofs.Scans.{scan_starts, scan_more, field_past, field_hit, field_end}
use Rattle.sheet.proofs.field.Goals as goal

pub returns-then-line-at : goal.returns-then-line-at
returns-then-line-at c = field_past _ _ c.if-line-at.true

pub loop-i-init : goal.loop-i-init
loop-i-init c = (c.if-line-at.false, scan_starts _ _ _)

pub slice_bounds-result-count : goal.slice_bounds-result-count
slice_bounds-result-count c = c.loop-i.invariant.1.from

pub slice_bounds-result-start : goal.slice_bounds-result-start
slice_bounds-result-start c = c.loop-i.invariant.1.from

pub returns-then-line-i-eq9 : goal.returns-then-line-i-eq9
returns-then-line-i-eq9 c = field_hit c.loop-i.invariant.1 c.if-line-at.false c.loop-i-test.true c.if-line-i-eq9.true

pub loop-i-preserved : goal.loop-i-preserved
loop-i-preserved c = (omega arith, scan_more c.loop-i.invariant.1 c.loop-i-test.true c.if-line-i-eq9.false)

pub returns : goal.returns
returns c = field_end c.loop-i.invariant.1 c.if-line-at.false c.loop-i-test.false
