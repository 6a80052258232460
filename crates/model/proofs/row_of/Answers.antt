use Rattle.model.proofs.Parts.{row_made}
use Rattle.model.proofs.row_of.Goals as goal

pub returns : goal.returns
returns c = row_made _ _ c.relation_of.ensures
