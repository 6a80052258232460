use Rattle.output.specs.Runs.{PlainTo}
use Rattle.output.proofs.plain_tail.Given as goal

abbrev pub invariant-loop-i : goal.invariant-loop-i
invariant-loop-i l = PlainTo l.f l.at l.i
