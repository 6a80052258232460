use mathlib.Core.Path.{refl}
use Rattle.unit_index.proofs.push_line.Goals as goal

pub returns : goal.returns
returns c = record { is = refl }
