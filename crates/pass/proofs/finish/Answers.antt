use Rattle.pass.proofs.Ends.{end_recipe, end_refused}
use Rattle.pass.proofs.finish.Goals as goal

pub returns-in-Err : goal.returns-in-Err
returns-in-Err c = end_refused c.check_end.ensures _ c.in-Err.is

pub returns-in-Ok : goal.returns-in-Ok
returns-in-Ok c = end_recipe c.check_end.ensures c.in-Ok.is
