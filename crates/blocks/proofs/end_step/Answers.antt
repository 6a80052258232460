use Rattle.blocks.proofs.Lines.{step_ended, step_refused}
use Rattle.blocks.proofs.end_step.Goals as goal

pub returns-in-Step-clause-done : goal.returns-in-Step-clause-done
returns-in-Step-clause-done c = step_ended c.in-Step.is c.close_step.ensures.done

pub returns-in-Text-clause-done : goal.returns-in-Text-clause-done
returns-in-Text-clause-done c = step_refused c.in-Text.is
