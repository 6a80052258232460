use borrow.Author.Tests.{eqb-false, not-true}
use mathlib.Core.Path.{sym, ◌∙◌}
use Rattle.fronts.proofs.Plain.{parted}
use Rattle.fronts.proofs.is_parted.Goals.{then-x-y, else-x-y}
use Rattle.fronts.proofs.is_parted.Goals as goal

pub returns-then-is_plain : goal.returns-then-is_plain
returns-then-is_plain c = λ e.
    elim c.if-x-y.branch [ then-x-y w ↦ parted _ _ _ _ c.if-a-i.false c.if-b-j.false w.if-x-y.true (sym w.is_plain.ensures ∙ sym w.value-is ∙ c.if-is_plain.true) (sym c.is_plain-then-is_plain.ensures ∙ e) | else-x-y w ↦ absurd (eqb-false _ _ (not-true _ (sym w.value-is ∙ c.if-is_plain.true)) w.if-x-y.false) ]
