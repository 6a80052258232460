use Rattle.finding_lines.proofs.Texts.{severity_yes, severity_no}
use Rattle.finding_lines.proofs.put_severity.Goals as goal
use Rattle.finding_lines.proofs.put_severity.Goals.{then-error, else-error}

pub returns : goal.returns
returns c = elim c.if-error.branch [
  | then-error w ↦ severity_yes w.if-error.true (rw w.put_field-is at c.put_field.ensures)
  | else-error w ↦ severity_no w.if-error.false (rw w.put_field-is at c.put_field.ensures)
]
