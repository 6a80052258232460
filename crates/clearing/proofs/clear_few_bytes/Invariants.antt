use Prim.Native.Nat.{◌-◌}
use lib.ListN.{length}
use Rattle.clearing.proofs.Zeros.{Zeroed}
use Rattle.clearing.proofs.clear_few_bytes.Given as goal

abbrev pub invariant-loop-i : goal.invariant-loop-i
invariant-loop-i l = Zeroed l.initial.bytes l.bytes l.i

abbrev pub decreases-loop-i : goal.decreases-loop-i
decreases-loop-i l = length l.initial.bytes - l.i
