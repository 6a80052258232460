use Rattle.sheet.proofs.Scans.{Scan}
use Rattle.sheet.proofs.line_end.Given as goal

abbrev pub invariant-loop-i : goal.invariant-loop-i
invariant-loop-i l = Scan 10 l.s l.at l.i
