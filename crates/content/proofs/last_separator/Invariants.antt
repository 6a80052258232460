use Prim.Native.Nat.{◌-◌}
use lib.ListN.{length}
use Rattle.content.proofs.Paths.{Separating}
use Rattle.content.proofs.last_separator.Given as goal

abbrev pub invariant-loop-at : goal.invariant-loop-at
invariant-loop-at l = Separating l.f l.at l.end l.start

abbrev pub decreases-loop-at : goal.decreases-loop-at
decreases-loop-at l = length l.f - l.at
