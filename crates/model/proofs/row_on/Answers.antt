use Prim.Native.Nat.{◌*◌}
use Rattle.model.specs.Rows.{row_of}
use Rattle.model.proofs.Parts.{part_row}
use Rattle.model.proofs.row_on.Goals as goal
use Rattle.model.specs.declared.layout.TheConstants.{ROW}

pub returns : goal.returns
returns c = part_row row_of _ ROW c.args.rows.now (c.args.i * ROW) c.row_of.ensures
