use Rattle.std.proofs.Common.{◌-◌, length}
use Rattle.parts.proofs.Escapes.{ContentFrom}
use Rattle.parts.proofs.read_content.Given as goal

abbrev pub invariant-loop-i : goal.invariant-loop-i
invariant-loop-i l = ContentFrom l.line l.at l.i

abbrev pub decreases-loop-i : goal.decreases-loop-i
decreases-loop-i l = length l.line - l.i
