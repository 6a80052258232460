use mathlib.Core.Path.{refl}
use Rattle.output.specs.Runs.{is_plain}
use Rattle.output.proofs.is_plain.Goals as goal

pub returns : goal.returns
unfolding is_plain
returns c = refl
