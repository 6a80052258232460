use Prim.Native.Nat.{◌≤◌}
use mathlib.Core.Path.{◌≡◌}
use lib.ListN.{drop}
use Rattle.rules.specs.Sheet.{digits_from, at_most, number_up_to}
use Rattle.sheet.proofs.read_up_to.Given as goal

abbrev pub invariant-loop-c : goal.invariant-loop-c
invariant-loop-c l = (l.n ≤ l.most) × (at_most l.most (digits_from l.n (drop l.c-index l.f)) ≡ number_up_to l.most l.f)
