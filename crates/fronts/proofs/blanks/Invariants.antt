use Prim.Native.Nat.{◌≤◌}
use lib.ListN.{length}
use Rattle.fronts.specs.Seams.{Common}
use Rattle.fronts.proofs.blanks.Given as goal

abbrev pub invariant-loop-i : goal.invariant-loop-i
invariant-loop-i l = (l.n ≤ length l.a) × (l.n ≤ length l.b) × Common l.a l.b l.i
