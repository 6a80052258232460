use Rattle.entry_lines.proofs.Relations.{place_step, place_list}
use Rattle.entry_lines.proofs.put_place.Goals as goal
use Rattle.entry_lines.proofs.put_place.Goals.{then-in_step, else-in_step}

pub returns : goal.returns
returns c = elim c.if-in_step.branch [
  | then-in_step w ↦ place_step w.if-in_step.true (rw w.put_field-is at c.put_field.ensures)
  | else-in_step w ↦ place_list w.if-in_step.false (rw w.put_field-is at c.put_field.ensures)
]
