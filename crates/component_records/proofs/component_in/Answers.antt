use Rattle.component_records.proofs.Rows.{in_rest}
use Rattle.component_records.proofs.component_in.Goals as goal

pub returns : goal.returns
returns c = in_rest _ _ _ c.row_on.ensures c.component_of.ensures
