use mathlib.Core.Path.{refl}
use Rattle.output.specs.Runs.{is_copied}
use Rattle.output.proofs.is_copied.Goals as goal

pub returns : goal.returns
unfolding is_copied
returns c = refl
