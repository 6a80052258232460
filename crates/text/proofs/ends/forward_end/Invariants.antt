use Prim.Native.Nat.{◌-◌}
use lib.ListN.{length}
use Rattle.text.proofs.Trims.{Ending}
use Rattle.text.specs.Trims.{drops_of}
use Rattle.text.proofs.ends.forward_end.Given as goal

abbrev pub invariant-loop-at : goal.invariant-loop-at
invariant-loop-at l = Ending (drops_of l.d) l.s l.end l.at

abbrev pub decreases-loop-at : goal.decreases-loop-at
decreases-loop-at l = length l.s - l.at
