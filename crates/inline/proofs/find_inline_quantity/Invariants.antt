use Prim.Native.Nat.{◌-◌}
use lib.ListN.{length}
use Rattle.rules.specs.Units.{read_units, units_or}
use Rattle.inline.specs.Scans.{part}
use Rattle.inline.proofs.Turns.{Sought}
use Rattle.inline.proofs.Lists.{Along}
use Rattle.inline.proofs.find_inline_quantity.Given as goal

abbrev pub invariant-loop-p : goal.invariant-loop-p
invariant-loop-p l = Along l.units.lines.now l.units.words.now (part l.unit_from l.unit_to l.s) l.p

abbrev pub decreases-loop-p : goal.decreases-loop-p
decreases-loop-p l = l.p

abbrev pub invariant-numbers : goal.invariant-numbers
invariant-numbers l = Sought (units_or (read_units l.units.lines.now)) l.s l.from l.i

abbrev pub decreases-numbers : goal.decreases-numbers
decreases-numbers l = length l.s - l.i
