use borrow.Author.Rules.{rules}
use native.Mathlib.Omega.{arith}
use Rattle.finding_lines.proofs.Parsers.{write_starts, write_cut, write_ill, write_on, write_ends}
use Rattle.finding_lines.proofs.parsed_lines.Goals as goal

pub loop-from-init : goal.loop-from-init
loop-from-init c = write_starts _ _ c.args.sheet.now.read

pub returns-in_default : goal.returns-in_default
returns-in_default c = write_cut c.loop-from.invariant c.line_end.ensures c.loop-from-test.true c.in_default.is

pub slice_bounds-event_in-count : goal.slice_bounds-event_in-count
slice_bounds-event_in-count c = omega (arith, (c.line_end.ensures.inside _ c.in-Some.is).0, (c.line_end.ensures.inside _ c.in-Some.is).1)

pub slice_bounds-event_in-start : goal.slice_bounds-event_in-start
slice_bounds-event_in-start c = omega (arith, (c.line_end.ensures.inside _ c.in-Some.is).0, (c.line_end.ensures.inside _ c.in-Some.is).1)

pub slice_bounds-event_in-end : goal.slice_bounds-event_in-end
slice_bounds-event_in-end c = omega (arith, (c.line_end.ensures.inside _ c.in-Some.is).0, (c.line_end.ensures.inside _ c.in-Some.is).1)

pub returns-in_default-event_in : goal.returns-in_default-event_in
returns-in_default-event_in c = write_ill c.loop-from.invariant c.line_end.ensures c.in-Some.is c.event_in.ensures c.in_default-event_in.is

pub overflow_add-from : goal.overflow_add-from
overflow_add-from c = search (rules, (c.line_end.ensures.inside _ c.in-Some.is).0, (c.line_end.ensures.inside _ c.in-Some.is).1)

pub loop-from-smaller : goal.loop-from-smaller
loop-from-smaller c = omega (arith, (c.line_end.ensures.inside _ c.in-Some.is).0, (c.line_end.ensures.inside _ c.in-Some.is).1)

pub loop-from-preserved : goal.loop-from-preserved
loop-from-preserved c = write_on c.loop-from.invariant c.line_end.ensures c.in-Some.is c.event_in.ensures c.in-Some-event_in.is c.put_event-m.ensures

pub returns : goal.returns
returns c = write_ends c.loop-from.invariant c.loop-from-test.false c.begin.ensures
