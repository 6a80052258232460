use Rattle.finding_lines.proofs.Texts.{flag_yes, flag_no}
use Rattle.finding_lines.proofs.put_flag.Goals as goal
use Rattle.finding_lines.proofs.put_flag.Goals.{then-implicit, else-implicit}

pub returns : goal.returns
returns c = elim c.if-implicit.branch [
  | then-implicit w ↦ flag_yes w.if-implicit.true (rw w.put_field-is at c.put_field.ensures)
  | else-implicit w ↦ flag_no w.if-implicit.false (rw w.put_field-is at c.put_field.ensures)
]
