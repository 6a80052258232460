use Prim.Native.Nat.{◌≤◌}
use lib.ListN.{length}
use Rattle.sheet.proofs.Scans.{Scan}
use Rattle.sheet.proofs.field.Given as goal

abbrev pub invariant-loop-i : goal.invariant-loop-i
invariant-loop-i l = (l.i ≤ length l.line) × Scan 9 l.line l.at l.i
