use mathlib.Core.Path.{refl}
use Rattle.model.specs.Rows.{noted_of}
use Rattle.model.proofs.noted_of.Goals as goal

pub returns : goal.returns
unfolding noted_of
returns c = refl
