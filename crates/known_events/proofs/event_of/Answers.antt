use Rattle.known_events.proofs.Whole.{known_ill, known_event}
use Rattle.known_events.proofs.event_of.Goals as goal

pub returns-in_default : goal.returns-in_default
returns-in_default c = known_ill c.requires (rw c.in_default.is at c.event_in.ensures)

pub returns : goal.returns
returns c = known_event c.requires c.in-Some.ensures
