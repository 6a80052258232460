use mathlib.Core.Path.{refl}
use native.Mathlib.Omega.{arith}
use Rattle.component_records.proofs.set_referenced_from.Goals as goal

pub link-requires : goal.link-requires
link-requires c = (omega (arith, c.requires.0, c.requires.2), c.requires.2, c.requires.3, c.requires.4)

pub returns : goal.returns
returns c = (refl, c.link.ensures)
