use Rattle.step_lines.proofs.Splits.{split_start, quantities_next, quantities_end}
use Rattle.step_lines.proofs.split_quantities.Goals as goal

pub loop-q-init : goal.loop-q-init
loop-q-init c = split_start c.requires.0

pub loop-q-preserved : goal.loop-q-preserved
loop-q-preserved c = quantities_next c.loop-q.invariant c.in-Some.ensures c.put_inline-count.ensures

pub returns : goal.returns
returns c = quantities_end c.in_default.ensures c.loop-q.invariant
