use mathlib.Core.Path.{refl}
use Rattle.following.specs.Follow.{section_follow}
use Rattle.following.proofs.after_section.Goals as goal

pub returns : goal.returns
unfolding section_follow
returns c = refl
