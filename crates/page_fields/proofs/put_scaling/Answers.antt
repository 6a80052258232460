use Rattle.page_fields.proofs.Amounts.{scaling_yes, scaling_no}
use Rattle.page_fields.proofs.put_scaling.Goals as goal
use Rattle.page_fields.proofs.put_scaling.Goals.{then-scalable, else-scalable}

pub returns : goal.returns
returns c = elim c.if-scalable.branch [
  | then-scalable w ↦ scaling_yes w.if-scalable.true (rw w.put_field-is at c.put_field.ensures)
  | else-scalable w ↦ scaling_no w.if-scalable.false (rw w.put_field-is at c.put_field.ensures)
]
