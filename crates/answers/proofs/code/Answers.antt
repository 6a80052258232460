use Rattle.answers.proofs.Answers.{code_page, code_refused}
use Rattle.answers.proofs.code.Goals as goal

pub returns-in-Ok : goal.returns-in-Ok
returns-in-Ok c = code_page c.in-Ok.is

pub returns-in-Err : goal.returns-in-Err
returns-in-Err c = code_refused c.in-Err.is c.number.ensures
