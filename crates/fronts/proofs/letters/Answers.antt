use native.Mathlib.Omega.{arith}
use Prim.Native.Nat.{◌-◌}
use Rattle.fronts.proofs.Seams.{seam_letter, seam_on}
use Rattle.fronts.proofs.letters.Goals as goal

pub loop-i-preserved-then-is_same_letter : goal.loop-i-preserved-then-is_same_letter
loop-i-preserved-then-is_same_letter c = (c.loop-i.invariant.0, c.loop-i.invariant.1, seam_letter c.loop-i.invariant.2 (omega (arith, c.loop-i.invariant.0, c.loop-i-test.true)) (omega (arith, c.loop-i.invariant.1, c.loop-i-test.true)) (c.is_same_letter.ensures c.if-is_same_letter.true))

pub overflow_add-i-else-is_same_letter : goal.overflow_add-i-else-is_same_letter
overflow_add-i-else-is_same_letter c = omega (arith, (seam_on c.loop-i.invariant.2 c.blank_seam-k.ensures).left)

pub loop-i-preserved : goal.loop-i-preserved
loop-i-preserved c = (c.loop-i.invariant.0, c.loop-i.invariant.1, seam_on c.loop-i.invariant.2 c.blank_seam-k.ensures)
