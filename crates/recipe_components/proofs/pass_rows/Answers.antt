use mathlib.Core.Path.{refl}
use Rattle.std.proofs.result.Match.{err_is}
use Rattle.pass.proofs.Given.{run_ready, recipe_running}
use Rattle.recipe_components.proofs.Passes.{recipe_rows, failed_rows, stopped_rows}
use Rattle.recipe_components.proofs.pass_rows.Goals as goal

pub run-requires : goal.run-requires
run-requires c = run_ready c.requires

pub invariant_of-stored : goal.invariant_of-stored
invariant_of-stored c = record { sound = (recipe_running c.run.ensures (rw c.in-Some.is at c.in_ok-held.was)).kept.sound }

pub returns-in-Some : goal.returns-in-Some
returns-in-Some c = recipe_rows _ c.requires refl c.run.ensures (rw c.in-Some.is at c.in_ok-held.was) c.recipe_counts.ensures

pub returns-in-None : goal.returns-in-None
returns-in-None c = failed_rows _ c.requires refl c.run.ensures (rw c.in-None.is at c.in_ok-held.was)

pub returns-in_err-held : goal.returns-in_err-held
returns-in_err-held c = rw (err_is _ _ c.from_residual.ensures.1) (stopped_rows _ c.requires refl c.run.ensures c.in_err-held.was)
