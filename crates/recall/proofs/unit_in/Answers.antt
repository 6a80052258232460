use Rattle.parts.specs.Got.{dash_as}
use Rattle.recall.proofs.Places.{quantity_absent, quantity_ill, quantity_present}
use Rattle.recall.proofs.unit_in.Goals as goal

pub returns-in-Absent : goal.returns-in-Absent
unfolding dash_as
returns-in-Absent c = quantity_absent _ c.requires c.after_tabs-alias.ensures c.after_text-quantity.ensures c.in-Absent.ensures

pub returns-in-Ill : goal.returns-in-Ill
unfolding dash_as
returns-in-Ill c = quantity_ill _ c.requires c.after_tabs-alias.ensures c.after_text-quantity.ensures c.in-Ill.ensures

pub returns-in-Present : goal.returns-in-Present
unfolding dash_as
returns-in-Present c = quantity_present _ c.requires c.after_tabs-alias.ensures c.after_text-quantity.ensures c.in-Present.ensures c.after_tabs-unit.ensures c.unit_at.ensures
