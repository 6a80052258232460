use mathlib.Core.Path.{refl}
use Rattle.parts.specs.Got.{dash_as}
use Rattle.recall.proofs.Places.{past_absent, past_ill, past_present}
use Rattle.recall.proofs.after_text.Goals as goal

pub returns-in-Absent : goal.returns-in-Absent
unfolding dash_as
returns-in-Absent c = past_absent _ _ c.in-Absent.ensures refl

pub returns-in-Ill : goal.returns-in-Ill
unfolding dash_as
returns-in-Ill c = past_ill _ _ c.in-Ill.ensures _

pub returns-in-Present : goal.returns-in-Present
unfolding dash_as
returns-in-Present c = past_present _ _ c.in-Present.ensures c.after_tabs.ensures
