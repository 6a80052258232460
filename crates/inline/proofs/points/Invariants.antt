use Prim.Native.Nat.{◌-◌}
use lib.ListN.{length}
use Rattle.inline.proofs.Scans.{Pointed}
use Rattle.inline.proofs.points.Given as goal

abbrev pub invariant-loop-i : goal.invariant-loop-i
invariant-loop-i l = Pointed l.s l.n l.i

abbrev pub decreases-loop-i : goal.decreases-loop-i
decreases-loop-i l = length l.s - l.i
