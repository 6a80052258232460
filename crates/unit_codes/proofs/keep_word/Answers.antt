use mathlib.Core.Path.{refl}
use Rattle.unit_codes.specs.Codes.{with_word}
use Rattle.unit_codes.proofs.keep_word.Goals as goal

pub returns : goal.returns
unfolding with_word
returns c = refl
