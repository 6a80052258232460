use Rattle.components.specs.Views.{modifiers_in}
use Rattle.model.specs.Rows as rows
use mathlib.Core.Path.{refl}
use Rattle.new_rows.proofs.modifiers_of.Goals as goal

pub returns : goal.returns
unfolding modifiers_in rows.modifiers_in
returns c = refl
