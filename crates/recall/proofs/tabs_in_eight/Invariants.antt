use Prim.Native.Nat.{◌≤◌}
use mathlib.Core.Path.{◌≡◌}
use Rattle.recall.specs.Places.{tabs_in}
use Rattle.recall.proofs.tabs_in_eight.Given as goal

abbrev pub invariant-loop-c : goal.invariant-loop-c
invariant-loop-c l = (l.c-index ≤ 8) × (l.n ≡ tabs_in l.line l.at l.c-index)
