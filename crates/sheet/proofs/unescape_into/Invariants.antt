use Prim.Native.Nat.{◌-◌, ◌≤◌}
use lib.ListN.{length}
use Rattle.sheet.proofs.Texts.{Unescaping}
use Rattle.sheet.proofs.unescape_into.Given as goal

abbrev pub invariant-loop-i : goal.invariant-loop-i
invariant-loop-i l = (l.i ≤ length l.f) × Unescaping l.f l.initial.out l.i l.out l.n

abbrev pub decreases-loop-i : goal.decreases-loop-i
decreases-loop-i l = length l.f - l.i
