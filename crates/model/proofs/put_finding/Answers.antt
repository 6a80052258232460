use Prim.Native.Nat.{◌*◌}
use Rattle.model.proofs.Parts.{noted_put}
use Rattle.model.proofs.put_finding.Goals as goal
use Rattle.model.specs.declared.layout.TheConstants.{FINDING}

pub returns : goal.returns
returns c = noted_put c.args.findings.now (c.args.n * FINDING) c.args.x _ _ c.bit.ensures c.bit-2.ensures c.copy_words.ensures
