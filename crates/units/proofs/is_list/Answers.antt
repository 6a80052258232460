use borrow.Author.Rules.{rules}
use borrow.Author.Tests.{not-true, not-false}
use Prim.Native.Nat.{◌-◌}
use Rattle.units.proofs.Walks.{counting_starts, counting_open, counting_full, counting_ill, counting_on, counting_end}
use Rattle.units.proofs.is_list.Goals as goal

pub loop-at-init : goal.loop-at-init
loop-at-init c = counting_starts _

pub returns-in_default : goal.returns-in_default
returns-in_default c = counting_open c.loop-at.invariant c.loop-at-test.true c.line_end.ensures c.in_default.is

pub returns-then-n-eq1024 : goal.returns-then-n-eq1024
returns-then-n-eq1024 c = counting_full c.loop-at.invariant c.line_end.ensures c.in-Some.is c.if-n-eq1024.true

pub slice_bounds-is_unit-count : goal.slice_bounds-is_unit-count
slice_bounds-is_unit-count c = let k = c.line_end.ensures.inside _ c.in-Some.is in search rules

pub slice_bounds-is_unit-start : goal.slice_bounds-is_unit-start
slice_bounds-is_unit-start c = let k = c.line_end.ensures.inside _ c.in-Some.is in search rules

pub slice_bounds-is_unit-end : goal.slice_bounds-is_unit-end
slice_bounds-is_unit-end c = let k = c.line_end.ensures.inside _ c.in-Some.is in search rules

pub returns-then-not-is_unit : goal.returns-then-not-is_unit
returns-then-not-is_unit c = counting_ill c.loop-at.invariant c.line_end.ensures c.in-Some.is c.is_unit.ensures (not-true _ c.if-not-is_unit.true-raw)

pub overflow_add-at : goal.overflow_add-at
overflow_add-at c = let k = c.line_end.ensures.inside _ c.in-Some.is in search rules

pub loop-at-smaller : goal.loop-at-smaller
loop-at-smaller c = let k = c.line_end.ensures.inside _ c.in-Some.is in search rules

pub loop-at-preserved : goal.loop-at-preserved
loop-at-preserved c = counting_on c.loop-at.invariant c.line_end.ensures c.in-Some.is c.is_unit.ensures c.if-n-eq1024.false (not-false _ c.if-not-is_unit.false-raw)

pub returns : goal.returns
returns c = counting_end c.loop-at.invariant c.loop-at-test.false
