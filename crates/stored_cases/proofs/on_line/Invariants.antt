use mathlib.Core.Path.{◌≡◌}
use lib.ListN.{drop}
use Rattle.stored_cases.specs.Cases.{on_line_from, on_line}
use Rattle.stored_cases.proofs.on_line.Given as goal

abbrev pub invariant-loop-i : goal.invariant-loop-i
invariant-loop-i l = on_line_from l.end l.i (drop l.i l.s) ≡ on_line l.s l.at l.end
