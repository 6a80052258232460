use Prim.Native.Nat.{◌-◌}
use lib.ListN.{length}
use Rattle.inline.proofs.Scans.{Going}
use Rattle.rules.specs.Inline.{is_digit_or_point}
use Rattle.inline.proofs.number_end.Given as goal

abbrev pub invariant-loop-i : goal.invariant-loop-i
invariant-loop-i l = Going is_digit_or_point l.s l.at l.i

abbrev pub decreases-loop-i : goal.decreases-loop-i
decreases-loop-i l = length l.s - l.i
