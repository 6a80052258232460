use Rattle.text.proofs.Backward.{Going}
use Rattle.text.specs.Trims.{drops_of}
use Rattle.text.proofs.end_of.Given as goal

abbrev pub invariant-loop-e : goal.invariant-loop-e
invariant-loop-e l = Going (drops_of l.d) l.s l.e

abbrev pub decreases-loop-e : goal.decreases-loop-e
decreases-loop-e l = l.e
