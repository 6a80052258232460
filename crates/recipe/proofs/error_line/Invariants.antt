use Prim.Native.Nat.{◌-◌, ◌≤◌}
use lib.ListN.{length}
use Rattle.recipe.proofs.Errors.{Seeking}
use Rattle.recipe.proofs.error_line.Given as goal

abbrev pub invariant-loop-at : goal.invariant-loop-at
invariant-loop-at l = Seeking l.sheet.text.now l.sheet.bytes.now l.at l.number × (length l.sheet.bytes.now ≤ 65536)

abbrev pub decreases-loop-at : goal.decreases-loop-at
decreases-loop-at l = length l.sheet.bytes.now - l.at
