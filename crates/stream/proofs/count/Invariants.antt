use Prim.Native.Nat.{◌-◌, ◌≤◌}
use lib.ListN.{length}
use Rattle.stream.proofs.count.Given as goal

abbrev pub invariant-loop-at : goal.invariant-loop-at
invariant-loop-at l =
    (l.points ≤ l.at) × (l.white ≤ l.at) × (l.alphabetic ≤ l.at) × (l.alphanumeric ≤ l.at) × (l.at ≤ length l.s)

abbrev pub decreases-loop-at : goal.decreases-loop-at
decreases-loop-at l = length l.s - l.at
