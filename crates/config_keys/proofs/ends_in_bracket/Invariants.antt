use Prim.Native.Nat.{◌-◌}
use lib.ListN.{length}
use Rattle.config_keys.proofs.Keys.{Passing}
use Rattle.config_keys.proofs.ends_in_bracket.Given as goal

abbrev pub invariant-loop-i : goal.invariant-loop-i
invariant-loop-i l = Passing l.f l.at l.i l.last

abbrev pub decreases-loop-i : goal.decreases-loop-i
decreases-loop-i l = length l.f - l.i
