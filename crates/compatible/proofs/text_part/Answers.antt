use Rattle.compatible.proofs.Laws.{trims}
use Rattle.compatible.proofs.text_part.Goals as goal

pub returns : goal.returns
returns c = trims c.part_of-f.ensures c.text_outer_trimmed.ensures
