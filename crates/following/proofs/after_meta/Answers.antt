use mathlib.Core.Path.{refl}
use Rattle.following.proofs.Follows.{arm}
use Rattle.following.specs.Follow.{meta_follow}
use Rattle.following.specs.declared.Meta.{Meta}
use Rattle.following.specs.declared.Meta.TheVariants.{Defines, Ordinary, Other}
use Rattle.following.proofs.after_meta.Goals as goal

pub returns-in-Defines : goal.returns-in-Defines
unfolding meta_follow
returns-in-Defines c = arm (λ (x : Meta). meta_follow x c.args.f) (Defines _) refl c.in-Defines.is

pub returns-in-Ordinary : goal.returns-in-Ordinary
unfolding meta_follow
returns-in-Ordinary c = arm (λ (x : Meta). meta_follow x c.args.f) Ordinary refl c.in-Ordinary.is

pub returns-in-Other : goal.returns-in-Other
unfolding meta_follow
returns-in-Other c = arm (λ (x : Meta). meta_follow x c.args.f) Other refl c.in-Other.is
