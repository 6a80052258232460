use Rattle.std.proofs.Common.{◌-◌, ◌≤◌, length}
use Rattle.sheet.specs.Runs.{is_stop, Lacking}
use Rattle.parts.proofs.past_plain.Given as goal

abbrev pub invariant-loop-i : goal.invariant-loop-i
invariant-loop-i l = (l.i ≤ length l.line) × Lacking is_stop l.line l.at l.i

abbrev pub decreases-loop-i : goal.decreases-loop-i
decreases-loop-i l = length l.line - l.i
