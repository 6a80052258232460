use Rattle.component_records.proofs.Rows.{lent_definition, lent_reference}
use Rattle.component_records.proofs.lent_relation.Goals as goal

pub returns-in_default : goal.returns-in_default
returns-in_default c = lent_definition _ c.in_default.is

pub returns : goal.returns
returns c = lent_reference _ c.in-Reference.is
