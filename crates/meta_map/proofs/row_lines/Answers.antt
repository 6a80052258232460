use borrow.Author.Rules.{rules}
use native.Mathlib.Omega.{arith}
use Rattle.output.proofs.Puts.{keeps}
use Rattle.meta_map.proofs.Printed.{print_starts, print_on, print_ends}
use Rattle.meta_map.proofs.Found.{print_row, key_place, value_place}
use Rattle.meta_map.proofs.row_lines.Goals as goal

pub loop-i-init : goal.loop-i-init
loop-i-init c = print_starts c.begin-c.ensures

pub cell_at-ka-requires : goal.cell_at-ka-requires
cell_at-ka-requires c = omega (arith, c.loop-i-test.true, c.requires.few, c.requires.long)

pub cell_at-ke-requires : goal.cell_at-ke-requires
cell_at-ke-requires c = omega (arith, c.loop-i-test.true, c.requires.few, c.requires.long)

pub cell_at-va-requires : goal.cell_at-va-requires
cell_at-va-requires c = omega (arith, c.loop-i-test.true, c.requires.few, c.requires.long)

pub cell_at-ve-requires : goal.cell_at-ve-requires
cell_at-ve-requires c = omega (arith, c.loop-i-test.true, c.requires.few, c.requires.long)

pub slice_bounds-put_meta-count : goal.slice_bounds-put_meta-count
slice_bounds-put_meta-count c = let r = print_row c.requires c.loop-i-test.true c.cell_at-ka.ensures c.cell_at-ke.ensures c.cell_at-va.ensures c.cell_at-ve.ensures in omega (arith, r.key_order, r.key_most, r.value_order, r.value_most)

pub slice_bounds-put_meta-start : goal.slice_bounds-put_meta-start
slice_bounds-put_meta-start c = let r = print_row c.requires c.loop-i-test.true c.cell_at-ka.ensures c.cell_at-ke.ensures c.cell_at-va.ensures c.cell_at-ve.ensures in omega (arith, r.key_order, r.key_most, r.value_order, r.value_most)

pub slice_bounds-put_meta-end : goal.slice_bounds-put_meta-end
slice_bounds-put_meta-end c = let r = print_row c.requires c.loop-i-test.true c.cell_at-ka.ensures c.cell_at-ke.ensures c.cell_at-va.ensures c.cell_at-ve.ensures in omega (arith, r.key_order, r.key_most, r.value_order, r.value_most)

pub slice_bounds-put_meta-count-in-loop-i : goal.slice_bounds-put_meta-count-in-loop-i
slice_bounds-put_meta-count-in-loop-i c = let r = print_row c.requires c.loop-i-test.true c.cell_at-ka.ensures c.cell_at-ke.ensures c.cell_at-va.ensures c.cell_at-ve.ensures in omega (arith, r.key_order, r.key_most, r.value_order, r.value_most)

pub slice_bounds-put_meta-start-in-loop-i : goal.slice_bounds-put_meta-start-in-loop-i
slice_bounds-put_meta-start-in-loop-i c = let r = print_row c.requires c.loop-i-test.true c.cell_at-ka.ensures c.cell_at-ke.ensures c.cell_at-va.ensures c.cell_at-ve.ensures in omega (arith, r.key_order, r.key_most, r.value_order, r.value_most)

pub slice_bounds-put_meta-end-in-loop-i : goal.slice_bounds-put_meta-end-in-loop-i
slice_bounds-put_meta-end-in-loop-i c = let r = print_row c.requires c.loop-i-test.true c.cell_at-ka.ensures c.cell_at-ke.ensures c.cell_at-va.ensures c.cell_at-ve.ensures in omega (arith, r.key_order, r.key_most, r.value_order, r.value_most)

pub put_meta-c-requires : goal.put_meta-c-requires
put_meta-c-requires c = let r = print_row c.requires c.loop-i-test.true c.cell_at-ka.ensures c.cell_at-ke.ensures c.cell_at-va.ensures c.cell_at-ve.ensures in (r.key, r.value)

pub loop-i-preserved : goal.loop-i-preserved
loop-i-preserved c = print_on c.loop-i.invariant c.loop-i-test.true (key_place c.requires c.loop-i-test.true c.cell_at-ka.ensures c.cell_at-ke.ensures c.cell_at-va.ensures c.cell_at-ve.ensures) (value_place c.requires c.loop-i-test.true c.cell_at-ka.ensures c.cell_at-ke.ensures c.cell_at-va.ensures c.cell_at-ve.ensures) c.put_meta-c.ensures

pub shape_of-out : goal.shape_of-out
shape_of-out c = search (rules, keeps c.loop-i.invariant.put)

pub returns : goal.returns
returns c = print_ends c.loop-i.invariant c.loop-i-test.false
