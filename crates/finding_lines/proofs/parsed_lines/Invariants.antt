use Prim.Native.Nat.{◌-◌}
use lib.ListN.{length}
use Rattle.finding_lines.proofs.Parsers.{Writing}
use Rattle.finding_lines.proofs.parsed_lines.Given as goal

abbrev pub invariant-loop-from : goal.invariant-loop-from
invariant-loop-from l = Writing l.sheet.text.now l.sheet.bytes.now l.initial.out l.at l.out l.m l.from

abbrev pub decreases-loop-from : goal.decreases-loop-from
decreases-loop-from l = length l.sheet.bytes.now - l.from
