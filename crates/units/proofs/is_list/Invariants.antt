use Prim.Native.Nat.{◌-◌}
use lib.ListN.{length}
use Rattle.units.proofs.Walks.{Counting}
use Rattle.units.proofs.is_list.Given as goal

abbrev pub invariant-loop-at : goal.invariant-loop-at
invariant-loop-at l = Counting l.units l.at l.n

abbrev pub decreases-loop-at : goal.decreases-loop-at
decreases-loop-at l = length l.units - l.at
