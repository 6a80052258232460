use Prim.Native.Nat.{◌-◌}
use lib.ListN.{length, drop}
use Rattle.rules.specs.Sheet.{escape}
use Rattle.output.specs.Runs.{PlainTo}
use Rattle.output.proofs.Puts.{Leads}
use Rattle.output.proofs.put_escaped.Given as goal

abbrev pub invariant-loop-e : goal.invariant-loop-e
invariant-loop-e l = Leads (escape l.f) l.initial.out l.at (escape (drop l.i l.f)) l.out l.n × PlainTo l.f l.i l.e

abbrev pub decreases-loop-e : goal.decreases-loop-e
decreases-loop-e l = length l.f - l.e
