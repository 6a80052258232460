use Prim.Native.Nat.{◌-◌}
use lib.ListN.{length}
use Rattle.rules.specs.Text.{is_not_alphabetic}
use Rattle.inline.proofs.Scans.{Going}
use Rattle.inline.proofs.letters_start.Given as goal

abbrev pub invariant-loop-i : goal.invariant-loop-i
invariant-loop-i l = Going is_not_alphabetic l.s 0 l.i

abbrev pub decreases-loop-i : goal.decreases-loop-i
decreases-loop-i l = length l.s - l.i
