use Rattle.blocks.proofs.Lines.{items_pushed}
use Rattle.blocks.proofs.push_items.Goals as goal

pub returns : goal.returns
returns c = items_pushed c.requires c.items_after-h.ensures c.with_block.ensures
