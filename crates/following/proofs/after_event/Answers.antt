use Rattle.following.proofs.Follows.{within_between, event_between, event_inside, event_finding}
use Rattle.following.proofs.after_event.Goals as goal

pub after_between-requires : goal.after_between-requires
after_between-requires c = within_between _ _ c.in-Between.is c.requires.0

pub returns-in-Between : goal.returns-in-Between
returns-in-Between c = event_between _ c.in-Between.is c.after_between.ensures

pub returns-in-Inside : goal.returns-in-Inside
returns-in-Inside c = event_inside _ c.in-Inside.is c.after_inside.ensures

pub returns-in-Finding : goal.returns-in-Finding
returns-in-Finding c = event_finding _ _ c.in-Finding.is
