use Rattle.plain_walk.proofs.Faults.{row_none, row_at_lem}
use Rattle.plain_walk.proofs.check_row.Goals as goal

pub implicit_row-requires : goal.implicit_row-requires
implicit_row-requires c = c.requires.row

pub returns-in-None : goal.returns-in-None
returns-in-None c = row_none c.implicit_row.ensures c.in-None.is

pub returns-in-Some : goal.returns-in-Some
returns-in-Some c = row_at_lem c.implicit_row.ensures _ c.in-Some.is c.check_last.ensures
