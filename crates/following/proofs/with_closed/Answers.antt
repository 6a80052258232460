use mathlib.Core.Path.{refl}
use Rattle.following.specs.Follow.{close_follow}
use Rattle.following.proofs.with_closed.Goals as goal

pub returns : goal.returns
unfolding close_follow
returns c = refl
