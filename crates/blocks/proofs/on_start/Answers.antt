use Rattle.blocks.proofs.Lines.{start_plain, start_text}
use Rattle.blocks.proofs.on_start.Goals as goal

pub returns-then-is_text : goal.returns-then-is_text
returns-then-is_text c = start_text _ c.is_text.ensures c.if-is_text.true c.with_block.ensures

pub returns : goal.returns
returns c = start_plain _ c.is_text.ensures c.if-is_text.false c.block_of-block.ensures c.with_block-2.ensures
