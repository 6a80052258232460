use Rattle.parts.proofs.Numbers.{NumberFrom}
use Rattle.parts.proofs.read_number.Given as goal

abbrev pub invariant-loop-i : goal.invariant-loop-i
invariant-loop-i l = NumberFrom l.line l.at l.n l.i
