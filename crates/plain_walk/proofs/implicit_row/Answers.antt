use Rattle.plain_walk.proofs.Faults.{implicit_marked, implicit_at_lem}
use Rattle.plain_walk.proofs.implicit_row.Goals as goal

pub returns-then-reference : goal.returns-then-reference
returns-then-reference c = implicit_marked c.if-reference.true

pub returns : goal.returns
returns c = implicit_at_lem c.if-reference.false c.row_target.ensures
