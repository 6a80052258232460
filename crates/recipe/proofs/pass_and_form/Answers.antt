use mathlib.Core.Path.{refl}
use Rattle.std.proofs.result.Match.{err_is}
use Rattle.inputs.proofs.Answers.{good_short}
use Rattle.pass.proofs.Given.{run_ready}
use Rattle.recipe.proofs.Passes.{recipe_given}
use Rattle.recipe.proofs.Forms.{bytes_lent, recipe_formed, failed_formed, refused_formed}
use Rattle.recipe.proofs.pass_and_form.Goals as goal

pub run-requires : goal.run-requires
run-requires c = run_ready c.requires

pub write_form-requires : goal.write_form-requires
write_form-requires c = (recipe_given c.requires c.run.ensures refl (rw c.in-Some.is at c.in_ok-h.was), bytes_lent c.requires)

pub error_line-requires : goal.error_line-requires
error_line-requires c = good_short c.requires

pub returns-in-Some : goal.returns-in-Some
returns-in-Some c = recipe_formed c.requires c.run.ensures (rw c.in-Some.is at c.in_ok-h.was) c.write_form.ensures

pub returns-in-None : goal.returns-in-None
returns-in-None c = failed_formed c.requires c.run.ensures _ refl (rw c.in-None.is at c.in_ok-h.was) c.error_line.ensures

pub returns-in_err-h : goal.returns-in_err-h
returns-in_err-h c = rw (err_is _ _ c.from_residual.ensures.1) (refused_formed c.requires c.run.ensures _ refl c.in_err-h.was)
