use mathlib.Core.Path.{refl}
use Rattle.sheet.specs.Runs.{is_stop}
use Rattle.sheet.proofs.is_stop.Goals as goal

pub returns : goal.returns
unfolding is_stop
returns c = refl
