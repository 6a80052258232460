use mathlib.Core.Path.{sym, ◌∙◌}
use Rattle.fronts.proofs.Lasts.{closes, parted_last}
use Rattle.fronts.proofs.is_parted_last.Goals as goal

pub returns-then-is_plain : goal.returns-then-is_plain
returns-then-is_plain c = λ e. parted_last (closes _ c.if-n-lt2.false c.if-a-n-eq92.false (sym c.is_plain.ensures ∙ c.if-is_plain.true)) (closes _ c.if-m-lt2.false c.if-b-m-eq92.false (sym c.is_plain-then-is_plain.ensures ∙ e)) c.if-x-y.false
