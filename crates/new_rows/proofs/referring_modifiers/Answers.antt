use Rattle.new_rows.proofs.Laws.{referring_is}
use Rattle.new_rows.proofs.referring_modifiers.Goals as goal

pub returns : goal.returns
returns c = referring_is _ _ c.handed_down-b.ensures c.joined-recipe.ensures c.joined-hidden.ensures c.joined-opt.ensures c.joined-new.ensures
