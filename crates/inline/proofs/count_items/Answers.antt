use native.Mathlib.Omega.{arith}
use Prim.Native.Nat.{◌+◌}
use mathlib.Core.Path.{◌≡◌}
use Rattle.inline.proofs.Items.{counting_start, counting_end, counting_fits, counting_less, counting_more, items_few}
use Rattle.inline.proofs.count_items.Goals as goal

pub loop-q-init : goal.loop-q-init
loop-q-init c = counting_start _ _ c.requires

pub find_inline_quantity-requires : goal.find_inline_quantity-requires
find_inline_quantity-requires c = (c.loop-q.invariant.to, c.loop-q.invariant.left)

pub overflow_add-items : goal.overflow_add-items
overflow_add-items c = omega (arith, counting_fits c.loop-q.invariant c.in-Some.ensures c.text_items.ensures, c.in-Some.ensures.end)

pub overflow_add-items-in-Some : goal.overflow_add-items-in-Some
overflow_add-items-in-Some c = omega (arith, counting_fits c.loop-q.invariant c.in-Some.ensures c.text_items.ensures, c.in-Some.ensures.end)

pub overflow_add-quantities : goal.overflow_add-quantities
overflow_add-quantities c = omega (arith, c.loop-q.invariant.fewer, counting_less c.loop-q.invariant c.in-Some.ensures, c.in-Some.ensures.end)

pub loop-q-smaller : goal.loop-q-smaller
loop-q-smaller c = omega (arith, counting_less c.loop-q.invariant c.in-Some.ensures, c.in-Some.ensures.end)

pub loop-q-preserved : goal.loop-q-preserved
loop-q-preserved c =
    let e : c.loop-q.items + (c.text_items.result + 1) ≡ c.loop-q.items + c.text_items.result + 1 = omega arith in
    rw e (counting_more c.loop-q.invariant c.in-Some.ensures c.text_items.ensures)

pub overflow_add-result : goal.overflow_add-result
overflow_add-result c = omega (arith, c.loop-q.invariant.few, c.loop-q.invariant.to, c.text_items-2.ensures, items_few _ _ c.loop-q.invariant.to)

pub returns : goal.returns
returns c = counting_end c.loop-q.invariant c.in_default.ensures c.text_items-2.ensures
