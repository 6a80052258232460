use Rattle.answers.specs.Answers.{used_of, answer_told}
use Rattle.answers.proofs.Prints.{page_shown, refusal_shown}
use Rattle.answers.proofs.print_told.Goals as goal

pub returns-in-Ok : goal.returns-in-Ok
unfolding used_of answer_told
returns-in-Ok c = page_shown (rw c.in-Ok.is at c.requires.0) (rw c.in-Ok.is)

pub returns-in-Err : goal.returns-in-Err
unfolding answer_told
returns-in-Err c = refusal_shown c.requires.1 (rw c.in-Err.is) c.write_refusal.ensures
