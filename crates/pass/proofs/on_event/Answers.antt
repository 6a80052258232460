use Rattle.pass.proofs.Lines.{here_as, between_ready, event_open, event_between, event_inside, event_finding}
use Rattle.pass.proofs.Rooms.{room_finding}
use Rattle.pass.proofs.on_event.Goals as goal

pub returns-then-is_open-clause-done : goal.returns-then-is_open-clause-done
returns-then-is_open-clause-done c = event_open _ c.in-Between.is c.is_open.ensures c.if-is_open.true

pub on_between-requires : goal.on_between-requires
on_between-requires c = between_ready _ c.in-Between.is c.requires.0 c.requires.1

pub on_inside-requires : goal.on_inside-requires
on_inside-requires c = (here_as _ c.in-Inside.is c.requires.0, c.requires.1, c.requires.2)

pub on_finding-requires : goal.on_finding-requires
on_finding-requires c = room_finding c.requires.0 c.requires.1

pub returns-else-is_open-clause-done : goal.returns-else-is_open-clause-done
returns-else-is_open-clause-done c = event_between _ c.in-Between.is c.is_open.ensures c.if-is_open.false c.requires.1.kept.fit c.on_between.ensures.done

pub returns-in-Inside-clause-done : goal.returns-in-Inside-clause-done
returns-in-Inside-clause-done c = event_inside _ c.in-Inside.is c.on_inside.ensures.done

pub returns-in-Finding-clause-done : goal.returns-in-Finding-clause-done
returns-in-Finding-clause-done c = event_finding _ _ c.in-Finding.is c.requires.1.kept.fit c.on_finding.ensures.done
