use Rattle.metadata.proofs.Metas.{ordinary_counted}
use Rattle.metadata.proofs.count_ordinary.Goals as goal

pub returns : goal.returns
returns c = ordinary_counted c.requires
