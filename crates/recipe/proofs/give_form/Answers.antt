use mathlib.Core.Path.{refl}
use Rattle.std.proofs.result.Match.{err_is}
use Rattle.inputs.proofs.Answers.{good_read}
use Rattle.pass.proofs.Given.{run_ready}
use Rattle.recipe.proofs.Forms.{form_over, form_out}
use Rattle.recipe.proofs.give_form.Goals as goal

pub invariant_of-read : goal.invariant_of-read
invariant_of-read c = record { read = good_read c.requires }

pub run-requires : goal.run-requires
run-requires c = run_ready c.requires

pub returns-in_err-form_checked : goal.returns-in_err-form_checked
returns-in_err-form_checked c = rw (err_is _ _ c.from_residual.ensures.1) (form_over c.requires c.run.ensures c.form_checked.ensures _ refl c.in_err-form_checked.was)

pub returns : goal.returns
returns c = form_out c.requires c.run.ensures c.form_checked.ensures c.in_ok-form_checked.was c.put_bytes-n.ensures c.hand_out.ensures
