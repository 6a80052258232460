use Prim.Native.Nat.{◌<◌}
use mathlib.Core.Path.{◌≡◌}
use lib.ListN.{drop}
use Rattle.stored_cases.specs.Cases.{number_from, number_at}
use Rattle.stored_cases.proofs.Numbers.{ten_to}
use Rattle.stored_cases.proofs.read_number.Given as goal

abbrev pub invariant-loop-i : goal.invariant-loop-i
invariant-loop-i l = (number_from l.end l.n l.count l.i (drop l.i l.s) ≡ number_at l.s l.at l.end) × (l.n < ten_to l.count)
