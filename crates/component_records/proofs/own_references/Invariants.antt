use Rattle.component_records.specs.Tables.{OwnCounted}
use Rattle.component_records.proofs.own_references.Given as goal

abbrev pub invariant-loop-i : goal.invariant-loop-i
invariant-loop-i l = OwnCounted l.words l.from l.i l.n
