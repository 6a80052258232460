use Rattle.following.proofs.Follows.{followed}
use Rattle.following.proofs.follow_event.Goals as goal

pub returns : goal.returns
returns c = followed _ c.after_event-r.ensures c.with_inline.ensures
