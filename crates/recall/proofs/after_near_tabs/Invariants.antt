use Prim.Native.Nat.{◌-◌}
use mathlib.Core.Path.{◌≡◌}
use lib.ListN.{length, drop}
use Rattle.sheet.specs.Lines.{fields_from}
use Rattle.recall.proofs.after_near_tabs.Given as goal

abbrev pub invariant-loop-left : goal.invariant-loop-left
invariant-loop-left l = drop l.left (fields_from l.line l.i) ≡ drop l.n (fields_from l.line l.at)

abbrev pub decreases-loop-left : goal.decreases-loop-left
decreases-loop-left l = length l.line - l.i
