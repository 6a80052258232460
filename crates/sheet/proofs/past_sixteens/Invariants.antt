use Prim.Native.Nat.{◌-◌, ◌≤◌}
use lib.ListN.{length}
use lib.Dec.{eqb}
use Rattle.sheet.specs.Runs.{Lacking}
use Rattle.sheet.proofs.past_sixteens.Given as goal

abbrev pub invariant-loop-i : goal.invariant-loop-i
invariant-loop-i l = (l.i ≤ length l.s) × Lacking (eqb l.b) l.s l.at l.i

abbrev pub decreases-loop-i : goal.decreases-loop-i
decreases-loop-i l = length l.s - l.i
