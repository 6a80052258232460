use Rattle.plain_lines.proofs.Fields.{lock_set, lock_none}
use Rattle.plain_lines.proofs.put_lock.Goals as goal
use Rattle.plain_lines.proofs.put_lock.Goals.{then-lock, else-lock}

pub returns : goal.returns
returns c = elim c.if-lock.branch [
  | then-lock w ↦ lock_set w.if-lock.true (rw w.put_field-is at c.put_field.ensures)
  | else-lock w ↦ lock_none w.if-lock.false (rw w.put_field-is at c.put_field.ensures)
]
