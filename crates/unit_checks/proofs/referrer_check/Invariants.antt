use lib.ListN.{length}
use mathlib.Core.Path.{◌≡◌}
use Rattle.rules.specs.Units.{read_units, units_or}
use Rattle.rules.specs.Model.{ingredient}
use Rattle.model.specs.Memory.{referrers_left}
use Rattle.unit_checks.specs.Codes.{CodesKept}
use Rattle.unit_checks.proofs.Units.{Going}
use Rattle.unit_checks.proofs.referrer_check.Given as goal

abbrev pub invariant-loop-i : goal.invariant-loop-i
invariant-loop-i l = Going (units_or (read_units l.units.lines.now)) l.sheet l.line l.a l.d l.initial.memory.words.now l.initial.memory.held l.memory.words.now l.memory.held l.place × CodesKept l.units.lines.now l.sheet l.codes × (l.memory.words.ghost_name ≡ l.initial.memory.words.ghost_name)

abbrev pub decreases-loop-i : goal.decreases-loop-i
decreases-loop-i l = length (referrers_left ingredient l.initial.memory.words.now l.initial.memory.held l.d l.place)
