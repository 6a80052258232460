use native.Mathlib.Omega.{arith}
use Rattle.classes.proofs.changed.Goals.{then-is_changed, else-is_changed}
use Rattle.classes.proofs.changed.Goals as goal

pub loop-c-preserved : goal.loop-c-preserved
loop-c-preserved c = elim c.if-is_changed.branch [ then-is_changed w ↦ omega arith | else-is_changed w ↦ omega arith ]
