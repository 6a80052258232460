use Prim.Native.Nat.{◌-◌}
use lib.ListN.{length}
use Rattle.output.specs.Runs.{PlainTo}
use Rattle.output.proofs.plain_end.Given as goal

abbrev pub invariant-loop-i : goal.invariant-loop-i
invariant-loop-i l = PlainTo l.f l.at l.i

abbrev pub decreases-loop-i : goal.decreases-loop-i
decreases-loop-i l = length l.f - l.i
