use mathlib.Core.Path.{refl}
use Rattle.content.specs.Readings.{plain_byte}
use Rattle.content.proofs.is_plain.Goals as goal

pub returns : goal.returns
unfolding plain_byte
returns c = refl
