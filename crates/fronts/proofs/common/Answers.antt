use native.Mathlib.Omega.{arith}
use Rattle.fronts.proofs.Seams.{common_one, common_less}
use Rattle.fronts.proofs.common.Goals as goal

pub loop-i-preserved : goal.loop-i-preserved
loop-i-preserved c = (c.loop-i.invariant.0, c.loop-i.invariant.1, common_one c.loop-i.invariant.2 (omega arith) (omega arith) c.if-a-i.false)

pub returns : goal.returns
returns c = common_less (omega arith) c.loop-i.invariant.2
