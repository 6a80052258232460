use Rattle.inputs.proofs.Answers.{told_good, good_read}
use Rattle.relations.proofs.check_and_run.Goals as goal

pub invariant_of-read : goal.invariant_of-read
invariant_of-read g c = record { read = good_read (told_good (rw c.in-Ok.is at c.check_inputs.ensures.0)) }

pub invariant_of-list : goal.invariant_of-list
invariant_of-list g c = record { indexed = c.check_inputs.ensures.1.indexed c.in-Ok.is }

pub run-requires : goal.run-requires
run-requires g c = told_good (rw c.in-Ok.is at c.check_inputs.ensures.0)
