use mathlib.Core.Path.{◌∙◌}
use borrow.Author.Tests.{le-ltb}
use Rattle.text.proofs.Paths.{back_past, back_other, back_last, back_next}
use Rattle.text.proofs.is_back.Goals.{then-w-at-via-then-w-at, then-w-at-via-else-w-at+then-w-at-ne92}
use Rattle.text.proofs.is_back.Goals as goal

pub returns-then-w-at : goal.returns-then-w-at
returns-then-w-at c =
    elim c.then-w-at.branch [ then-w-at-via-then-w-at w ↦ back_past _ _ w.if-w-at.true | then-w-at-via-else-w-at+then-w-at-ne92 w ↦ back_other _ _ w.if-w-at-ne92.true ]

pub returns-then-at-w : goal.returns-then-at-w
returns-then-at-w c = back_next _ _ c.if-w-at-ne92.false

pub returns-else-at-w : goal.returns-else-at-w
returns-else-at-w c = le-ltb _ _ c.if-at-w.false ∙ back_last _ _ c.if-w-at-ne92.false c.if-at-w.false
