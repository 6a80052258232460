use Rattle.finding_lines.proofs.Tables.{Listing}
use Rattle.finding_lines.proofs.finding_lines.Given as goal

abbrev pub invariant-loop-i : goal.invariant-loop-i
invariant-loop-i l = Listing l.stored.words.now l.stored.held.counts.findings l.initial.out l.at l.out l.n l.i
