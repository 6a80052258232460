use mathlib.Core.Path.{refl}
use Rattle.rules.specs.Answer.{words_needed}
use Rattle.recipe.proofs.recipe_words.Goals as goal

pub returns : goal.returns
returns c = unfold words_needed in refl
