use Rattle.inputs.proofs.Checks.{early_refused, early_passed, ready_refused, ready_on}
use Rattle.inputs.proofs.check_inputs.Goals as goal

pub returns-in-Err : goal.returns-in-Err
returns-in-Err c = (early_refused c.check_early.ensures.0 _ c.in-Err.is, ready_refused c.check_early.ensures.1 c.in-Err.is)

pub returns-in-Ok : goal.returns-in-Ok
returns-in-Ok c = (early_passed c.check_early.ensures.0 _ c.in-Ok.is c.check_late.ensures, ready_on c.check_early.ensures.1 c.in-Ok.is c.check_late.ensures)
