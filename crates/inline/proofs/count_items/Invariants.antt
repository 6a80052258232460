use Prim.Native.Nat.{◌-◌}
use lib.ListN.{length}
use Rattle.rules.specs.Units.{read_units, units_or}
use Rattle.inline.proofs.Items.{Counting}
use Rattle.inline.proofs.count_items.Given as goal

abbrev pub invariant-loop-q : goal.invariant-loop-q
invariant-loop-q l = Counting (units_or (read_units l.units.lines.now)) l.s l.at l.items l.quantities

abbrev pub decreases-loop-q : goal.decreases-loop-q
decreases-loop-q l = length l.s - l.at
