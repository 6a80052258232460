use borrow.Author.Rules.{rules}
use native.Mathlib.Omega.{arith}
use Prim.Native.Nat.{◌-◌}
use Rattle.plain_walk.proofs.Turns.{form_starts, form_ends, form_kept, form_number, form_room, form_inline, form_few, form_cut, form_line, form_ready, form_fit, form_fault, form_next}
use Rattle.plain_walk.proofs.plain_form_lines.Goals as goal

pub loop-at-init : goal.loop-at-init
loop-at-init c = form_starts c.first_follow-f.ensures c.requires.2 c.args.sheet.now.read

pub shape_of-out-in_default : goal.shape_of-out-in_default
shape_of-out-in_default c = search (rules, form_kept c.loop-at.invariant)

pub returns-in_default : goal.returns-in_default
returns-in_default c = form_cut c.loop-at.invariant c.line_end.ensures c.loop-at-test.true c.in_default.is

pub slice_bounds-line-count : goal.slice_bounds-line-count
slice_bounds-line-count c = omega (arith, (c.line_end.ensures.inside _ c.in-Some.is).0, (c.line_end.ensures.inside _ c.in-Some.is).1)

pub slice_bounds-line-start : goal.slice_bounds-line-start
slice_bounds-line-start c = omega (arith, (c.line_end.ensures.inside _ c.in-Some.is).0, (c.line_end.ensures.inside _ c.in-Some.is).1)

pub slice_bounds-line-end : goal.slice_bounds-line-end
slice_bounds-line-end c = omega (arith, (c.line_end.ensures.inside _ c.in-Some.is).0, (c.line_end.ensures.inside _ c.in-Some.is).1)

pub event_of-e-requires : goal.event_of-e-requires
event_of-e-requires c = form_line c.loop-at.invariant c.line_end.ensures c.in-Some.is

pub check_marks-requires : goal.check_marks-requires
check_marks-requires c = form_ready c.loop-at.invariant c.line_end.ensures c.in-Some.is c.event_of-e.ensures

pub shape_of-out-in-Err : goal.shape_of-out-in-Err
shape_of-out-in-Err c = search (rules, form_kept c.loop-at.invariant)

pub returns-in-Err : goal.returns-in-Err
returns-in-Err c = form_fault c.loop-at.invariant c.line_end.ensures c.in-Some.is c.event_of-e.ensures c.check_marks.ensures c.in-Err.is

pub plain_of-p-requires : goal.plain_of-p-requires
plain_of-p-requires c = (c.event_of-e.ensures.within, form_few c.loop-at.invariant)

pub put_plain-n-requires : goal.put_plain-n-requires
put_plain-n-requires c = form_fit c.loop-at.invariant c.line_end.ensures c.in-Some.is c.event_of-e.ensures c.plain_of-p.ensures

pub follow_event-f-requires : goal.follow_event-f-requires
follow_event-f-requires c = (c.event_of-e.ensures.within, form_room c.loop-at.invariant (omega (arith, c.loop-at-test.true, c.requires.0)), form_inline c.loop-at.invariant)

pub overflow_add-at : goal.overflow_add-at
overflow_add-at c = omega (arith, c.requires.0, (c.line_end.ensures.inside _ c.in-Some.is).1)

pub overflow_add-number : goal.overflow_add-number
overflow_add-number c = omega (arith, c.requires.0, form_number c.loop-at.invariant, c.loop-at-test.true)

pub loop-at-smaller : goal.loop-at-smaller
loop-at-smaller c = omega (arith, (c.line_end.ensures.inside _ c.in-Some.is).0, (c.line_end.ensures.inside _ c.in-Some.is).1)

pub loop-at-preserved : goal.loop-at-preserved
loop-at-preserved c = form_next c.loop-at.invariant c.line_end.ensures c.in-Some.is c.event_of-e.ensures c.check_marks.ensures c.in_default-check_marks.is c.plain_of-p.ensures c.put_plain-n.ensures c.follow_event-f.ensures

pub shape_of-out : goal.shape_of-out
shape_of-out c = search (rules, form_kept c.loop-at.invariant)

pub returns : goal.returns
returns c = form_ends c.loop-at.invariant c.loop-at-test.false
