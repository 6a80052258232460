use mathlib.Core.Path.{refl}
use Rattle.recipe.proofs.Clears.{answer_left}
use Rattle.recipe.proofs.collect.Goals as goal

pub returns : goal.returns
returns c = answer_left c.collected-r.ensures c.collected-r.auto.words c.clear_words.ensures refl c.clear_from.ensures c.used.ensures c.clear_from-2.ensures
