use mathlib.Core.Path.{sym}
use native.Mathlib.Omega.{arith}
use Rattle.answers.specs.Answers.{answer_of, used_of, answer_told}
use Rattle.answers.proofs.Prints.{page_shown}
use Rattle.answers.proofs.print_answer.Goals as goal

pub returns-in-Ok : goal.returns-in-Ok
unfolding used_of answer_of
returns-in-Ok c = page_shown (rw c.in-Ok.is at c.requires.0) (rw c.in-Ok.is)

pub print_told-requires : goal.print_told-requires
unfolding used_of
print_told-requires c = (omega arith, c.requires.1)

pub returns-in-Err : goal.returns-in-Err
unfolding answer_of answer_told
returns-in-Err c = rw (c.in-Err.is, sym c.number.ensures) c.print_told.ensures
