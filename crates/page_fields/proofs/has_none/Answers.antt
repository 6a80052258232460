use Rattle.components.specs.Views.{modifiers_in}
use Rattle.page_fields.proofs.Letters.{or_then, or_else, none_set}
use Rattle.page_fields.proofs.has_none.Goals as goal
use Rattle.page_fields.proofs.has_none.Goals.{then-m, else-m, then-m-2, else-m-2, then-m-3, else-m-3, then-m-4, else-m-4}

pub returns : goal.returns
unfolding modifiers_in
returns c =
    none_set _ c.if-m.value c.if-m-2.value c.if-m-3.value c.if-m-4.result
    (elim c.if-m.branch [ then-m w ↦ or_then _ w.if-m.true w.value-is | else-m w ↦ or_else _ w.if-m.false w.value-is ])
    (elim c.if-m-2.branch [ then-m-2 w ↦ or_then _ w.if-m-2.true w.value-is | else-m-2 w ↦ or_else _ w.if-m-2.false w.value-is ])
    (elim c.if-m-3.branch [ then-m-3 w ↦ or_then _ w.if-m-3.true w.value-is | else-m-3 w ↦ or_else _ w.if-m-3.false w.value-is ])
    (elim c.if-m-4.branch [ then-m-4 w ↦ or_then _ w.if-m-4.true w.result-is | else-m-4 w ↦ or_else _ w.if-m-4.false w.result-is ])
