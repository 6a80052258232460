use Rattle.checks.proofs.Both.{note_room, both_checked}
use Rattle.checks.proofs.reference_checks.Goals as goal

pub quantity_check-requires : goal.quantity_check-requires
quantity_check-requires c = note_room c.note_check-found.ensures c.push_found.ensures.found c.requires.0

pub returns-clause-done : goal.returns-clause-done
returns-clause-done c = both_checked c.note_check-found.ensures c.push_found.ensures.found c.quantity_check.ensures.done
