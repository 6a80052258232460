use mathlib.Core.Path.{refl}
use Rattle.rules.specs.Answer.{bytes_needed}
use Rattle.recipe.proofs.recipe_bytes.Goals as goal

pub returns : goal.returns
returns c = unfold bytes_needed in refl
