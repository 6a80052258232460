use Prim.Native.Nat.{◌-◌}
use lib.ListN.{length}
use Rattle.content.specs.Contents.{kept_in}
use Rattle.chains.proofs.Hashing.{Hashing}
use Rattle.chains.proofs.hash_kept.Given as goal

abbrev pub invariant-loop-i : goal.invariant-loop-i
invariant-loop-i l = Hashing kept_in l.f l.h l.i

abbrev pub decreases-loop-i : goal.decreases-loop-i
decreases-loop-i l = length l.f - l.i
