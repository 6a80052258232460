use native.Mathlib.Omega.{arith}
use mathlib.Core.Path.{sym, ◌∙◌}
use Rattle.fronts.proofs.Seams.{common_none, common_one, common_less}
use Rattle.fronts.proofs.blanks.Goals as goal

pub loop-i-init : goal.loop-i-init
loop-i-init c = (omega (arith, c.min-n.ensures), omega (arith, c.min-n.ensures), common_none)

pub loop-i-preserved : goal.loop-i-preserved
loop-i-preserved c = (c.loop-i.invariant.0, c.loop-i.invariant.1, common_one c.loop-i.invariant.2 (omega arith) (omega arith) (c.if-a-i-ne32.false ∙ sym c.if-b-i-ne32.false))

pub returns : goal.returns
returns c = common_less (omega arith) c.loop-i.invariant.2
