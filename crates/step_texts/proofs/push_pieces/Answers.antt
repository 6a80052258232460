use Rattle.step_texts.proofs.Texts.{items_room, pieces_pushed_at}
use Rattle.step_texts.proofs.push_pieces.Goals as goal

pub push_items-requires : goal.push_items-requires
push_items-requires c = items_room _ _ _ c.requires.0 c.count_inline-k.ensures

pub returns : goal.returns
returns c = pieces_pushed_at c.requires.1 c.count_inline-k.ensures c.push_items.ensures
