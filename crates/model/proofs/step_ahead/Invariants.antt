use Rattle.model.proofs.Searches.{Ahead}
use Rattle.model.proofs.step_ahead.Given as goal

abbrev pub invariant-loop-k : goal.invariant-loop-k
invariant-loop-k l = Ahead l.kinds l.n l.value l.k l.v
