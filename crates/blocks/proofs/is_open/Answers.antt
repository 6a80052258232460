use Rattle.blocks.proofs.Lines.{open_is}
use Rattle.blocks.proofs.is_open.Goals as goal

pub returns : goal.returns
returns c = open_is c.is_open.ensures
