use Rattle.content.proofs.Kept.{Skipping}
use Rattle.content.proofs.skip_blanks.Given as goal

abbrev pub invariant-loop-i : goal.invariant-loop-i
invariant-loop-i l = Skipping l.f l.at l.i
