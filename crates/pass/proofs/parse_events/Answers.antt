use native.Mathlib.Omega.{arith}
use mathlib.Core.Path.{◌∙◌, ap, refl}
use Rattle.pass.specs.Walks.{left_if}
use Rattle.unit_checks.proofs.Codes.{codes_none}
use Prim.Native.Nat.{◌-◌}
use Rattle.pass.proofs.Loops.{passing_starts, passing_cut, line_ready, event_here, passing_failed, passing_refused, passing_on, passing_room, passing_done}
use Rattle.pass.proofs.parse_events.Goals as goal

pub loop-at-init : goal.loop-at-init
loop-at-init c = (passing_starts c.requires.1 c.requires.0 c.args.memory.now.sound c.args.sheet.now.read, codes_none, refl)

pub returns-in_default : goal.returns-in_default
returns-in_default c = passing_cut c.loop-at.invariant.0 c.line_end.ensures c.loop-at-test.true c.in_default.is

pub slice_bounds-line-count : goal.slice_bounds-line-count
slice_bounds-line-count c = omega (arith, (c.line_end.ensures.inside _ c.in-Some.is).0, (c.line_end.ensures.inside _ c.in-Some.is).1)

pub slice_bounds-line-start : goal.slice_bounds-line-start
slice_bounds-line-start c = omega (arith, (c.line_end.ensures.inside _ c.in-Some.is).0, (c.line_end.ensures.inside _ c.in-Some.is).1)

pub slice_bounds-line-end : goal.slice_bounds-line-end
slice_bounds-line-end c = omega (arith, (c.line_end.ensures.inside _ c.in-Some.is).0, (c.line_end.ensures.inside _ c.in-Some.is).1)

pub event_of-v-requires : goal.event_of-v-requires
event_of-v-requires c = line_ready c.loop-at.invariant.0 c.line_end.ensures c.in-Some.is

pub step-requires : goal.step-requires
step-requires c = (event_here c.loop-at.invariant.0 c.line_end.ensures c.in-Some.is c.event_of-v.ensures, c.loop-at.invariant.0.running, c.loop-at.invariant.1)

pub returns-in-Ok-false-clause-done : goal.returns-in-Ok-false-clause-done
returns-in-Ok-false-clause-done c = passing_failed c.loop-at.invariant.0 c.line_end.ensures c.in-Some.is c.event_of-v.ensures c.step.ensures.done (ap (left_if _) (rw c.in-Ok-false.field-0-test at c.in-Ok-false.is))

pub returns-in-Err-clause-done : goal.returns-in-Err-clause-done
returns-in-Err-clause-done c = passing_refused c.loop-at.invariant.0 c.line_end.ensures c.in-Some.is c.event_of-v.ensures c.step.ensures.done _ (ap (left_if _) c.in-Err.is)

pub overflow_add-at : goal.overflow_add-at
overflow_add-at c = omega (arith, c.loop-at.invariant.0.short, (c.line_end.ensures.inside _ c.in-Some.is).1)

pub overflow_add-number : goal.overflow_add-number
overflow_add-number c = omega (arith, c.loop-at.invariant.0.few, c.loop-at.invariant.0.from, c.loop-at.invariant.0.short)

pub loop-at-smaller : goal.loop-at-smaller
loop-at-smaller c = omega (arith, (c.line_end.ensures.inside _ c.in-Some.is).0, (c.line_end.ensures.inside _ c.in-Some.is).1)

pub loop-at-preserved : goal.loop-at-preserved
loop-at-preserved c = (passing_on c.loop-at.invariant.0 c.line_end.ensures c.in-Some.is c.event_of-v.ensures c.step.ensures.done _ (ap (left_if _) (rw c.in-Ok-true.field-0-test at c.in-Ok-true.is)), c.step.ensures.codes, c.step.ensures.lent ∙ c.loop-at.invariant.2)

pub finish-requires : goal.finish-requires
finish-requires c = passing_room c.loop-at.invariant.0

pub returns-clause-done : goal.returns-clause-done
returns-clause-done c = passing_done c.loop-at.invariant.0 c.loop-at-test.false c.finish.ensures
