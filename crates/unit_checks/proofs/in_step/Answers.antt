use Rattle.unit_checks.proofs.Rows.{step_definition, step_reference}
use Rattle.unit_checks.proofs.in_step.Goals as goal

pub returns-in-Definition : goal.returns-in-Definition
returns-in-Definition c = step_definition _ c.in-Definition.is

pub returns-in-Reference : goal.returns-in-Reference
returns-in-Reference c = step_reference _ _ c.in-Reference.is
