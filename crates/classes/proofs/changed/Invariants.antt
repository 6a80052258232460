use Prim.Native.Nat.{◌≤◌}
use Rattle.classes.proofs.changed.Given as goal

abbrev pub invariant-loop-c : goal.invariant-loop-c
invariant-loop-c l = l.n ≤ l.c
