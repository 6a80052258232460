use Rattle.intermediate.proofs.Laws.{to_step, to_section}
use Rattle.intermediate.proofs.intermediate_target.Goals as goal

pub returns-in-Step : goal.returns-in-Step
returns-in-Step c = to_step _ c.in-Step.is c.step_target.ensures

pub returns-in-Section : goal.returns-in-Section
returns-in-Section c = to_section _ c.in-Section.is c.section_target.ensures
