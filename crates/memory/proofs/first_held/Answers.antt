use mathlib.Core.Path.{refl}
use Rattle.model.specs.Memory.{first_held}
use Rattle.memory.proofs.first_held.Goals as goal

pub returns : goal.returns
unfolding first_held
returns c = refl
