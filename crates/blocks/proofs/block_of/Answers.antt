use Rattle.blocks.proofs.Lines.{kind_step, kind_text}
use Rattle.blocks.proofs.block_of.Goals as goal

pub returns-in-Step : goal.returns-in-Step
returns-in-Step c = kind_step c.in-Step.is

pub returns-in-Text : goal.returns-in-Text
returns-in-Text c = kind_text c.in-Text.is
