use Prim.Native.Nat.{◌-◌}
use lib.ListN.{length}
use Rattle.fronts.proofs.Seams.{Facing}
use Rattle.text.proofs.same_whole.Given as goal

abbrev pub invariant-loop-r : goal.invariant-loop-r
invariant-loop-r l = Facing l.a l.b l.i l.j

abbrev pub decreases-loop-r : goal.decreases-loop-r
decreases-loop-r l = length l.a - l.i
