use lib.ListN.{length}
use Rattle.text.specs.Names.{rest}
use Rattle.stream.proofs.folded.Given as goal

abbrev pub invariant-loop-sum : goal.invariant-loop-sum
invariant-loop-sum l = Unit {0}

abbrev pub decreases-loop-sum : goal.decreases-loop-sum
decreases-loop-sum l = length (rest l.s l.c)
