use Prim.Native.Nat.{◌-◌}
use lib.ListN.{length}
use Rattle.rules.specs.Unicode.{is_alphanumeric}
use Rattle.text.proofs.Trims.{Seeking}
use Rattle.text.proofs.has_alphanumeric.Given as goal

abbrev pub invariant-loop-at : goal.invariant-loop-at
invariant-loop-at l = Seeking is_alphanumeric l.s l.at

abbrev pub decreases-loop-at : goal.decreases-loop-at
decreases-loop-at l = length l.s - l.at
