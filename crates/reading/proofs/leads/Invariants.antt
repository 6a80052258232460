use Prim.Native.Nat.{◌≤◌}
use mathlib.Core.Path.{◌≡◌}
use lib.ListN.{length, drop}
use Rattle.reading.specs.Answers.{leads_with}
use Rattle.reading.proofs.leads.Given as goal

abbrev pub invariant-loop-i : goal.invariant-loop-i
invariant-loop-i l = (l.i ≤ length l.word) × (leads_with (drop l.i l.word) (drop l.i l.line) ≡ leads_with l.word l.line)
