use Rattle.component_records.proofs.Links.{linked, refused}
use Rattle.component_records.proofs.link.Goals as goal

pub returns-in_default : goal.returns-in_default
returns-in_default c = linked c.in_default.is c.put_pair.ensures

pub returns : goal.returns
returns c = refused c.in-Reference.is
