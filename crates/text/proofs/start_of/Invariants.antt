use Prim.Native.Nat.{◌-◌}
use lib.ListN.{length}
use Rattle.text.specs.Trims.{drops_of}
use Rattle.text.proofs.Trims.{Starting}
use Rattle.text.proofs.start_of.Given as goal

abbrev pub invariant-loop-at : goal.invariant-loop-at
invariant-loop-at l = Starting (drops_of l.d) l.s l.at

abbrev pub decreases-loop-at : goal.decreases-loop-at
decreases-loop-at l = length l.s - l.at
