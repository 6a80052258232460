use Rattle.parts.specs.Got.{dash_as}
use Rattle.recall.proofs.Places.{unit_absent, unit_ill, unit_past, unit_there}
use Rattle.recall.proofs.unit_at.Goals as goal

pub returns-then-line-from : goal.returns-then-line-from
unfolding dash_as
returns-then-line-from c = unit_past _ _ c.in-Present.ensures c.after_near_tabs-from.ensures c.if-line-from.true

pub returns-in-Absent : goal.returns-in-Absent
unfolding dash_as
returns-in-Absent c = unit_absent _ _ c.in-Absent.ensures

pub returns-in-Ill : goal.returns-in-Ill
unfolding dash_as
returns-in-Ill c = unit_ill _ _ c.in-Ill.ensures

pub returns-else-line-from : goal.returns-else-line-from
unfolding dash_as
returns-else-line-from c = unit_there _ _ c.in-Present.ensures c.after_near_tabs-from.ensures c.if-line-from.false c.field-content.ensures
