use mathlib.Core.Path.{◌∙◌}
use borrow.Author.Tests.{not-true, not-false}
use Rattle.spans.proofs.Alls.{span_reversed, span_past, span_inside, span_is}
use Rattle.spans.proofs.is_good_span.Goals.{then-end-start-via-then-end-start, then-end-start-via-else-end-start+then-text-end}
use Rattle.spans.proofs.is_good_span.Goals as goal

pub returns-then-end-start : goal.returns-then-end-start
returns-then-end-start c =
    elim c.then-end-start.branch [ then-end-start-via-then-end-start w ↦ span_reversed _ _ w.if-end-start.true | then-end-start-via-else-end-start+then-text-end w ↦ span_past _ _ w.if-end-start.false w.if-text-end.true ]

pub returns-then-not-is_inside : goal.returns-then-not-is_inside
returns-then-not-is_inside c = span_is _ _ c.if-end-start.false c.if-text-end.false c.is_inside.ensures (not-true _ c.if-not-is_inside.true-raw) c.is_inside-then-not-is_inside.ensures

pub returns-else-not-is_inside : goal.returns-else-not-is_inside
returns-else-not-is_inside c = c.if-not-is_inside.false-raw ∙ span_inside _ _ c.if-end-start.false c.if-text-end.false c.is_inside.ensures (not-false _ c.if-not-is_inside.false-raw)
