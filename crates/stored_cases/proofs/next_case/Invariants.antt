use Prim.Native.Nat.{◌-◌}
use mathlib.Core.Path.{◌≡◌}
use lib.ListN.{length}
use Rattle.stored_cases.specs.Cases.{past_parts, parts_from, next_case}
use Rattle.stored_cases.proofs.next_case.Given as goal

abbrev pub invariant-loop-p : goal.invariant-loop-p
invariant-loop-p l = past_parts l.at (parts_from l.s l.at) ≡ next_case l.s l.fn.c

abbrev pub decreases-loop-p : goal.decreases-loop-p
decreases-loop-p l = length l.s - l.at
