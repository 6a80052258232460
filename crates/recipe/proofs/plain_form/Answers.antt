use Rattle.recipe.proofs.Clears.{answer_left}
use Rattle.recipe.proofs.plain_form.Goals as goal

pub returns : goal.returns
returns c = answer_left c.formed-f.ensures c.formed-f.auto.words c.clear_words.ensures c.formed-f.auto.bytes c.clear_from.ensures c.used.ensures c.clear_from-2.ensures
