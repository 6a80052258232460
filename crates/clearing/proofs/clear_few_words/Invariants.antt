use Prim.Native.Nat.{◌-◌}
use lib.ListN.{length}
use Rattle.clearing.proofs.Zeros.{Zeroed}
use Rattle.clearing.proofs.clear_few_words.Given as goal

abbrev pub invariant-loop-k : goal.invariant-loop-k
invariant-loop-k l = Zeroed l.initial.words l.words l.k

abbrev pub decreases-loop-k : goal.decreases-loop-k
decreases-loop-k l = length l.initial.words - l.k
