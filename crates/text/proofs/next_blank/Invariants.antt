use Prim.Native.Nat.{◌≤◌}
use lib.Dec.{eqb}
use lib.ListN.{length}
use Rattle.rules.specs.Basic.{blank}
use Rattle.sheet.specs.Runs.{Lacking}
use Rattle.text.proofs.next_blank.Given as goal

abbrev pub invariant-loop-i : goal.invariant-loop-i
invariant-loop-i l = (l.i ≤ length l.w) × Lacking (eqb blank) l.w l.at l.i
