use Prim.Native.Nat.{◌-◌}
use lib.ListN.{length}
use Rattle.rules.specs.Units.{read_units, units_or}
use Rattle.step_lines.specs.Lines.{inline_text}
use Rattle.step_lines.proofs.Splits.{Splitting}
use Rattle.step_lines.proofs.split_quantities.Given as goal

abbrev pub invariant-loop-q : goal.invariant-loop-q
invariant-loop-q l = Splitting inline_text (units_or (read_units l.units.lines.now)) l.s l.first l.initial.rest l.rest l.at l.count l.quantities

abbrev pub decreases-loop-q : goal.decreases-loop-q
decreases-loop-q l = length l.s - l.at
