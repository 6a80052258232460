use Rattle.model.proofs.Searches.{Backing}
use Rattle.model.proofs.step_back.Given as goal

abbrev pub invariant-loop-i : goal.invariant-loop-i
invariant-loop-i l = Backing l.kinds l.n l.value l.i l.v
