use borrow.Author.Rules.{rules}
use native.Mathlib.Omega.{arith}
use Prim.Native.Nat.{◌-◌}
use Rattle.meta_map.proofs.Walks.{lined_known}
use Rattle.recipe.proofs.Errors.{seeking_starts, seeking_ends, seeking_cut, seeking_found, seeking_on}
use Rattle.recipe.proofs.error_line.Goals as goal

pub loop-at-init : goal.loop-at-init
loop-at-init c = (seeking_starts c.args.sheet.now.read, c.requires)

pub returns-in_default : goal.returns-in_default
returns-in_default c = seeking_cut c.loop-at.invariant.0 c.line_end.ensures c.loop-at-test.true c.in_default.is

pub slice_bounds-event_of-count : goal.slice_bounds-event_of-count
slice_bounds-event_of-count c = omega (arith, (c.line_end.ensures.inside _ c.in-Some.is).0, (c.line_end.ensures.inside _ c.in-Some.is).1)

pub slice_bounds-event_of-start : goal.slice_bounds-event_of-start
slice_bounds-event_of-start c = omega (arith, (c.line_end.ensures.inside _ c.in-Some.is).0, (c.line_end.ensures.inside _ c.in-Some.is).1)

pub slice_bounds-event_of-end : goal.slice_bounds-event_of-end
slice_bounds-event_of-end c = omega (arith, (c.line_end.ensures.inside _ c.in-Some.is).0, (c.line_end.ensures.inside _ c.in-Some.is).1)

pub event_of-v-requires : goal.event_of-v-requires
event_of-v-requires c = lined_known c.loop-at.invariant.0.rest c.line_end.ensures c.in-Some.is

pub returns-then-is_error : goal.returns-then-is_error
returns-then-is_error c = seeking_found c.loop-at.invariant.0 c.line_end.ensures c.in-Some.is c.event_of-v.ensures c.is_error.ensures c.if-is_error.true

pub overflow_add-at : goal.overflow_add-at
overflow_add-at c = search (rules, (c.line_end.ensures.inside _ c.in-Some.is).0, (c.line_end.ensures.inside _ c.in-Some.is).1)

pub overflow_add-number : goal.overflow_add-number
overflow_add-number c = omega (arith, c.loop-at.invariant.0.low, c.loop-at.invariant.1, (c.line_end.ensures.inside _ c.in-Some.is).0, (c.line_end.ensures.inside _ c.in-Some.is).1)

pub loop-at-smaller : goal.loop-at-smaller
loop-at-smaller c = omega (arith, (c.line_end.ensures.inside _ c.in-Some.is).0, (c.line_end.ensures.inside _ c.in-Some.is).1)

pub loop-at-preserved : goal.loop-at-preserved
loop-at-preserved c = (seeking_on c.loop-at.invariant.0 c.line_end.ensures c.in-Some.is c.event_of-v.ensures c.is_error.ensures c.if-is_error.false, c.loop-at.invariant.1)

pub returns : goal.returns
returns c = seeking_ends c.loop-at.invariant.0 c.loop-at-test.false
