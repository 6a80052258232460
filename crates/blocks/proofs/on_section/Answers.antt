use Rattle.blocks.proofs.Lines.{section_done}
use Rattle.blocks.proofs.on_section.Goals as goal

pub returns : goal.returns
returns c = section_done _ c.is_some-named.ensures c.begin_section.ensures
