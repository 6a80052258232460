use Rattle.model.proofs.Searches.{Seeking}
use Rattle.model.proofs.next_referrer.Given as goal

abbrev pub invariant-loop-i : goal.invariant-loop-i
invariant-loop-i l = Seeking l.pairs l.n l.definition l.from l.i
