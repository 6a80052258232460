use Rattle.model.specs.Kinds.{kind_of}
use Rattle.memory.proofs.Reading.{row_there}
use Rattle.plain_walk.specs.Becomes.{row_plain}
use Rattle.plain_walk.proofs.row_plain.Goals as goal

pub implicit_row-requires : goal.implicit_row-requires
implicit_row-requires c = row_there (kind_of c.args.kind) c.args.stored.now.sound c.rows.ensures c.requires

pub returns-in-None : goal.returns-in-None
returns-in-None c = unfold row_plain in rw (← c.rows.ensures, ← c.implicit_row.ensures.is, c.in-None.is)

pub returns-in-Some : goal.returns-in-Some
returns-in-Some c = unfold row_plain in rw (← c.rows.ensures, ← c.implicit_row.ensures.is, c.in-Some.is)
