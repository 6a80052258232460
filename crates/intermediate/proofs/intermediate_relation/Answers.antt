use Rattle.intermediate.proofs.Laws.{related_none, related_step, related_section}
use Rattle.intermediate.proofs.intermediate_relation.Goals as goal

pub returns-in-None : goal.returns-in-None
returns-in-None c = related_none _ _ c.in-None.is

pub returns-in-Step : goal.returns-in-Step
returns-in-Step c = related_step _ _ c.in-Some.is c.in-Step.is

pub returns-in-Section : goal.returns-in-Section
returns-in-Section c = related_section _ _ c.in-Some.is c.in-Section.is
