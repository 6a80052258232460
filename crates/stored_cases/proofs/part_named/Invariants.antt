use Prim.Native.Nat.{◌-◌}
use mathlib.Core.Path.{◌≡◌}
use lib.ListN.{length}
use Rattle.stored_cases.specs.Cases.{first_named, parts_from, part_named}
use Rattle.stored_cases.proofs.part_named.Given as goal

abbrev pub invariant-loop-p : goal.invariant-loop-p
invariant-loop-p l = first_named l.s l.name (parts_from l.s l.at) ≡ part_named l.s l.fn.c l.name

abbrev pub decreases-loop-p : goal.decreases-loop-p
decreases-loop-p l = length l.s - l.at
