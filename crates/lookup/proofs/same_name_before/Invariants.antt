use Rattle.lookup.proofs.Names.{Searching}
use Rattle.lookup.proofs.same_name_before.Given as goal

abbrev pub invariant-loop-k : goal.invariant-loop-k
invariant-loop-k l = Searching l.sheet l.rows l.count l.name l.any_opt l.is_opt l.k
