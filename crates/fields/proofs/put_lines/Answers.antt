use borrow.Author.Rules.{rules}
use Rattle.fields.proofs.put_lines.Goals as goal

pub slice_bounds-put_fields-count-in-loop-e : goal.slice_bounds-put_fields-count-in-loop-e
slice_bounds-put_fields-count-in-loop-e c = (c.line_end.ensures.inside _ c.in-Some.is).0

pub slice_bounds-put_fields-start-in-loop-e : goal.slice_bounds-put_fields-start-in-loop-e
slice_bounds-put_fields-start-in-loop-e c = (c.line_end.ensures.inside _ c.in-Some.is).0

pub slice_bounds-put_fields-end-in-loop-e : goal.slice_bounds-put_fields-end-in-loop-e
slice_bounds-put_fields-end-in-loop-e c = let m = c.line_end.ensures.inside _ c.in-Some.is in search rules

pub overflow_add-i : goal.overflow_add-i
overflow_add-i c = let m = c.line_end.ensures.inside _ c.in-Some.is in search rules

pub loop-e-smaller : goal.loop-e-smaller
loop-e-smaller c = let m = c.line_end.ensures.inside _ c.in-Some.is in search rules

pub loop-e-preserved : goal.loop-e-preserved
loop-e-preserved c = let m = c.line_end.ensures.inside _ c.in-Some.is in search rules
