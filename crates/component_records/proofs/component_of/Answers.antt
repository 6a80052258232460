use Rattle.component_records.proofs.Rows.{row_record}
use Rattle.component_records.proofs.component_of.Goals as goal

pub returns : goal.returns
returns c = row_record c.args.r c.lent_relation.ensures
