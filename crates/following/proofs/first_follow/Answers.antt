use borrow.Author.Rules.{rules}
use Rattle.following.specs.Drawn.{first_follow}
use Rattle.following.proofs.first_follow.Goals as goal

pub returns : goal.returns
unfolding first_follow
returns c = search rules
