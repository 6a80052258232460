use borrow.Author.Tests.{eqb-false, not-true}
use mathlib.Core.Path.{sym, ◌∙◌}
use Rattle.fronts.proofs.Seams.{seam_at}
use Rattle.fronts.proofs.is_seam.Goals.{then-a-i-ne92, else-a-i-ne92}
use Rattle.fronts.proofs.is_seam.Goals as goal

pub returns-then-opens : goal.returns-then-opens
returns-then-opens c = λ e.
    elim c.if-a-i-ne92.branch [ then-a-i-ne92 w ↦ seam_at _ _ _ c.requires.0 c.requires.1 w.if-a-i-ne92.true (w.opens.ensures (sym w.value-is ∙ c.if-opens.true)) (c.opens-then-opens.ensures e) | else-a-i-ne92 w ↦ absurd (eqb-false _ _ (not-true _ (sym w.value-is ∙ c.if-opens.true)) w.if-a-i-ne92.false) ]
