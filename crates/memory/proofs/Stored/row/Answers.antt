use Rattle.model.specs.Kinds.{kind_of}
use Rattle.memory.proofs.Reading.{row_there}
use Rattle.memory.proofs.Stored.row.Goals as goal

pub row_on-requires : goal.row_on-requires
row_on-requires c = row_there (kind_of c.args.kind) c.args.self.now.sound c.rows.ensures c.requires

pub returns : goal.returns
returns c = rw c.rows.ensures at c.row_on.ensures
