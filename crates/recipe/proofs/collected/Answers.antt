use mathlib.Core.Path.{refl}
use Rattle.std.proofs.result.Match.{err_is}
use Rattle.inputs.proofs.Answers.{told_good, good_read}
use Rattle.recipe.proofs.Passes.{inputs_refused}
use Rattle.recipe.proofs.collected.Goals as goal

pub returns-in_err-check_inputs : goal.returns-in_err-check_inputs
returns-in_err-check_inputs c = rw (err_is _ _ c.from_residual.ensures.1) (inputs_refused _ c.check_inputs.ensures.0 _ refl c.in_err-check_inputs.was)

pub invariant_of-read : goal.invariant_of-read
invariant_of-read c = record { read = good_read (told_good (rw c.in_ok-check_inputs.was at c.check_inputs.ensures.0)) }

pub invariant_of-list : goal.invariant_of-list
invariant_of-list c = record { indexed = c.check_inputs.ensures.1.indexed c.in_ok-check_inputs.was }

pub pass_and_write-requires : goal.pass_and_write-requires
pass_and_write-requires c = told_good (rw c.in_ok-check_inputs.was at c.check_inputs.ensures.0)

pub returns : goal.returns
returns c = c.pass_and_write.ensures
