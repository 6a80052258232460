use mathlib.Core.Path.{refl}
use Rattle.following.specs.Follow.{with_inline}
use Rattle.following.proofs.with_inline.Goals as goal

pub returns : goal.returns
unfolding with_inline
returns c = refl
