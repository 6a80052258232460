use Rattle.inputs.proofs.Answers.{good_short}
use Rattle.relations.proofs.Runs.{recipe_counts}
use Rattle.pass.proofs.Given.{run_ready, recipe_running}
use Rattle.relations.proofs.run.Goals as goal

pub run-requires : goal.run-requires
run-requires g c = run_ready c.requires

pub show_counts-requires : goal.show_counts-requires
show_counts-requires g c = recipe_counts (recipe_running c.run.ensures (rw c.in-Ok-Some.field-0-is at c.in-Ok-Some.is)) (good_short c.requires)

pub invariant_of-show_both : goal.invariant_of-show_both
invariant_of-show_both g c = record { sound = (recipe_running c.run.ensures (rw c.in-Ok-Some.field-0-is at c.in-Ok-Some.is)).kept.sound }
