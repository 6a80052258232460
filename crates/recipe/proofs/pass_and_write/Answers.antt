use mathlib.Core.Path.{refl}
use Rattle.std.proofs.result.Match.{err_is}
use Rattle.pass.proofs.Given.{run_ready}
use Rattle.recipe.proofs.Passes.{page_given, recipe_answered, failed_answered, refused_answered}
use Rattle.recipe.proofs.pass_and_write.Goals as goal

pub run-requires : goal.run-requires
run-requires c = run_ready c.requires

pub recipe_page-n-requires : goal.recipe_page-n-requires
recipe_page-n-requires c = page_given c.requires c.run.ensures refl (rw c.in-Some.is at c.in_ok-h.was)

pub returns-in-Some : goal.returns-in-Some
returns-in-Some c = recipe_answered c.requires c.run.ensures refl (rw c.in-Some.is at c.in_ok-h.was) c.recipe_page-n.ensures c.hand_out.ensures

pub returns-in-None : goal.returns-in-None
returns-in-None c = failed_answered c.requires c.run.ensures refl (rw c.in-None.is at c.in_ok-h.was) c.failed_page-n.ensures c.hand_out-in-None.ensures

pub returns-in_err-h : goal.returns-in_err-h
returns-in_err-h c = rw (err_is _ _ c.from_residual.ensures.1) (refused_answered c.requires c.run.ensures _ refl c.in_err-h.was)
