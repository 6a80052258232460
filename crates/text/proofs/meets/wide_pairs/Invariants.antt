use Prim.Native.Nat.{◌-◌}
use lib.ListN.{length}
use Rattle.fronts.specs.Seams.{Seam}
use Rattle.text.proofs.meets.wide_pairs.Given as goal

abbrev pub invariant-loop-i : goal.invariant-loop-i
invariant-loop-i l = Seam l.a l.b l.i

abbrev pub decreases-loop-i : goal.decreases-loop-i
decreases-loop-i l = length l.a - l.i
