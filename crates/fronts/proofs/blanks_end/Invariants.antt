use Rattle.fronts.specs.Ends.{BlankFrom}
use Rattle.fronts.proofs.blanks_end.Given as goal

abbrev pub invariant-loop-i : goal.invariant-loop-i
invariant-loop-i l = BlankFrom l.s l.i

abbrev pub decreases-loop-i : goal.decreases-loop-i
decreases-loop-i l = l.i
