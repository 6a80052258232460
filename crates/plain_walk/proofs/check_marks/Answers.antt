use Rattle.plain_walk.proofs.FaultLines.{ready_inside, event_between, event_inside, event_finding}
use Rattle.plain_walk.proofs.check_marks.Goals as goal

pub check_inside-requires : goal.check_inside-requires
check_inside-requires c = ready_inside _ c.args.stored.now.words.now c.args.f _ c.in-Inside.is c.requires

pub returns-in-Between : goal.returns-in-Between
returns-in-Between c = event_between _ c.args.stored.now.words.now c.args.f _ c.in-Between.is

pub returns-in-Inside : goal.returns-in-Inside
returns-in-Inside c = event_inside _ c.args.stored.now.words.now c.args.f _ c.in-Inside.is c.check_inside.ensures

pub returns-in-Finding : goal.returns-in-Finding
returns-in-Finding c = event_finding _ c.args.stored.now.words.now c.args.f _ _ c.in-Finding.is
