use Prim.Native.Nat.{◌-◌}
use lib.ListN.{length}
use Rattle.inline.specs.Scans.{is_not_white}
use Rattle.inline.proofs.Scans.{Going}
use Rattle.inline.proofs.word_end.Given as goal

abbrev pub invariant-loop-i : goal.invariant-loop-i
invariant-loop-i l = Going is_not_white l.s l.at l.i

abbrev pub decreases-loop-i : goal.decreases-loop-i
decreases-loop-i l = length l.s - l.i
