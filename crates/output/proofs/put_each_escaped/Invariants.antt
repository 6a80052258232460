use lib.ListN.{drop}
use Rattle.rules.specs.Sheet.{escape}
use Rattle.output.proofs.Puts.{Leads}
use Rattle.output.proofs.put_each_escaped.Given as goal

abbrev pub invariant-loop-c : goal.invariant-loop-c
invariant-loop-c l = Leads (escape l.f) l.initial.out l.at (escape (drop l.c-index l.f)) l.out l.n
