use Prim.Native.Nat.{◌*◌}
use Rattle.model.specs.Rows.{noted_of}
use Rattle.model.proofs.Parts.{part_row}
use Rattle.model.proofs.finding_at.Goals as goal
use Rattle.model.specs.declared.layout.TheConstants.{FINDING}

pub returns : goal.returns
returns c = part_row noted_of _ 8 c.args.findings.now (c.args.i * FINDING) c.noted_of.ensures
