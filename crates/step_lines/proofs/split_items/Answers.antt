use Rattle.step_lines.proofs.Splits.{split_start, split_rest, items_next, items_end}
use Rattle.step_lines.proofs.split_items.Goals as goal

pub loop-q-init : goal.loop-q-init
loop-q-init c = split_start c.requires.0

pub loop-q-preserved : goal.loop-q-preserved
loop-q-preserved c = items_next c.loop-q.invariant c.in-Some.ensures c.put_text-m.ensures c.put_item-n.ensures

pub put_text-count-requires : goal.put_text-count-requires
put_text-count-requires c = split_rest c.loop-q.invariant

pub returns : goal.returns
returns c = items_end c.in_default.ensures c.loop-q.invariant c.put_text-count.ensures
