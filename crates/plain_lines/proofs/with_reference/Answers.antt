use mathlib.Core.Path.{refl}
use Rattle.rules.specs.Model.{with_ref}
use Rattle.components.specs.Views.{modifiers_in}
use Rattle.plain_lines.proofs.with_reference.Goals as goal

pub returns : goal.returns
unfolding with_ref modifiers_in
returns c = refl
