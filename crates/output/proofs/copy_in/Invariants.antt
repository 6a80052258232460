use Prim.Native.Nat.{◌-◌}
use lib.ListN.{length}
use Rattle.output.proofs.Runs.{Copied}
use Rattle.output.proofs.copy_in.Given as goal

abbrev pub invariant-loop-i : goal.invariant-loop-i
invariant-loop-i l = Copied l.w l.initial.out l.at l.out l.i

abbrev pub decreases-loop-i : goal.decreases-loop-i
decreases-loop-i l = length l.w - l.i
