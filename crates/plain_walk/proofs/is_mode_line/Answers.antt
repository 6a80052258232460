use Rattle.plain_walk.proofs.Becomes.{mode_line}
use Rattle.plain_walk.proofs.is_mode_line.Goals as goal

pub returns : goal.returns
returns c = mode_line _ _ c.requires c.part_of-k.ensures c.is_heeded.ensures
