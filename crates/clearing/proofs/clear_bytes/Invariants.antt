use Prim.Native.Nat.{◌-◌}
use lib.ListN.{length}
use Rattle.clearing.proofs.Zeros.{Zeroed}
use Rattle.clearing.proofs.clear_bytes.Given as goal

abbrev pub invariant-loop-at : goal.invariant-loop-at
invariant-loop-at l = Zeroed l.initial.bytes l.bytes l.at

abbrev pub decreases-loop-at : goal.decreases-loop-at
decreases-loop-at l = length l.initial.bytes - l.at
