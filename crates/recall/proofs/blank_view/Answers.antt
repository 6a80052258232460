use mathlib.Core.Path.{refl}
use Rattle.recall.specs.Recalls.{blank_view}
use Rattle.recall.proofs.blank_view.Goals as goal

pub returns : goal.returns
unfolding blank_view
returns c = refl
