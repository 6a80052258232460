use Rattle.unit_checks.specs.Codes.{CodesKept}
use mathlib.Core.Path.{◌≡◌}
use lib.ListN.{length}
use Prim.Native.Nat.{◌-◌}
use Rattle.pass.proofs.Loops.{Passing}
use Rattle.pass.proofs.parse_events.Given as goal

abbrev pub invariant-loop-at : goal.invariant-loop-at
invariant-loop-at l = Passing l.units.lines.now l.flags l.sheet.bytes.now l.sheet.text.now l.initial.memory.words.now l.memory.words.now l.memory.held l.at l.number × CodesKept l.units.lines.now l.sheet.bytes.now l.codes × (l.memory.words.ghost_name ≡ l.initial.memory.words.ghost_name)

abbrev pub decreases-loop-at : goal.decreases-loop-at
decreases-loop-at l = length l.sheet.bytes.now - l.at
