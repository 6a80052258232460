use Prim.Native.Nat.{◌-◌}
use lib.ListN.{length, drop}
use Rattle.rules.specs.Text.{retain}
use Rattle.output.proofs.Puts.{Leads}
use Rattle.text.proofs.put_kept.Given as goal

abbrev pub invariant-loop-i : goal.invariant-loop-i
invariant-loop-i l = Leads (retain 0 l.w) l.initial.out l.at (retain l.prev (drop l.i l.w)) l.out l.n

abbrev pub decreases-loop-i : goal.decreases-loop-i
decreases-loop-i l = length l.w - l.i
