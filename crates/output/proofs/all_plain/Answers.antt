use mathlib.Core.Path.{refl}
use Rattle.output.specs.Runs.{is_plain}
use Rattle.output.proofs.Runs.{all_turn, all_end}
use Rattle.output.proofs.all_plain.Goals as goal

pub loop-c-init : goal.loop-c-init
loop-c-init c = refl

pub loop-c-preserved : goal.loop-c-preserved
loop-c-preserved c = all_turn is_plain _ _ c.loop-c.plain c.loop-c.invariant c.loop-c-test.true c.is_plain-plain.ensures

pub returns : goal.returns
returns c = all_end is_plain _ _ c.loop-c.invariant c.loop-c-test.false
