use native.Mathlib.Omega.{arith}
use Rattle.meta_map.proofs.Found.{find_starts, find_ends, row_few, row_within, row_hit, row_on, row_less}
use Rattle.meta_map.proofs.Props.{indexed_of}
use Rattle.meta_map.proofs.Map.find.Goals as goal

pub head_at-p-requires : goal.head_at-p-requires
head_at-p-requires c = omega (arith, c.requires.small, (indexed_of c.args.self.now.indexed).long)

pub loop-p-init : goal.loop-p-init
loop-p-init c = find_starts c.args.key.now (indexed_of c.args.self.now.indexed) c.requires c.head_at-p.ensures

pub cell_at-from-requires : goal.cell_at-from-requires
cell_at-from-requires c = omega (arith, row_few c.args.key.now (indexed_of c.args.self.now.indexed) c.loop-p.invariant c.loop-p-test.true, (indexed_of c.args.self.now.indexed).long)

pub cell_at-to-requires : goal.cell_at-to-requires
cell_at-to-requires c = omega (arith, row_few c.args.key.now (indexed_of c.args.self.now.indexed) c.loop-p.invariant c.loop-p-test.true, (indexed_of c.args.self.now.indexed).long)

pub slice_bounds-same_parts-count : goal.slice_bounds-same_parts-count
slice_bounds-same_parts-count c = omega (arith, (row_within c.args.key.now (indexed_of c.args.self.now.indexed) c.loop-p.invariant c.loop-p-test.true c.cell_at-from.ensures c.cell_at-to.ensures).0, (row_within c.args.key.now (indexed_of c.args.self.now.indexed) c.loop-p.invariant c.loop-p-test.true c.cell_at-from.ensures c.cell_at-to.ensures).1)

pub slice_bounds-same_parts-start : goal.slice_bounds-same_parts-start
slice_bounds-same_parts-start c = omega (arith, (row_within c.args.key.now (indexed_of c.args.self.now.indexed) c.loop-p.invariant c.loop-p-test.true c.cell_at-from.ensures c.cell_at-to.ensures).0, (row_within c.args.key.now (indexed_of c.args.self.now.indexed) c.loop-p.invariant c.loop-p-test.true c.cell_at-from.ensures c.cell_at-to.ensures).1)

pub slice_bounds-same_parts-end : goal.slice_bounds-same_parts-end
slice_bounds-same_parts-end c = omega (arith, (row_within c.args.key.now (indexed_of c.args.self.now.indexed) c.loop-p.invariant c.loop-p-test.true c.cell_at-from.ensures c.cell_at-to.ensures).0, (row_within c.args.key.now (indexed_of c.args.self.now.indexed) c.loop-p.invariant c.loop-p-test.true c.cell_at-from.ensures c.cell_at-to.ensures).1)

pub returns-then-same_parts : goal.returns-then-same_parts
returns-then-same_parts c = row_hit c.args.key.now (indexed_of c.args.self.now.indexed) c.loop-p.invariant c.loop-p-test.true c.cell_at-from.ensures c.cell_at-to.ensures c.same_parts.ensures c.if-same_parts.true

pub cell_at-p-requires : goal.cell_at-p-requires
cell_at-p-requires c = omega (arith, row_few c.args.key.now (indexed_of c.args.self.now.indexed) c.loop-p.invariant c.loop-p-test.true, (indexed_of c.args.self.now.indexed).long)

pub loop-p-smaller : goal.loop-p-smaller
loop-p-smaller c = row_less c.args.key.now (indexed_of c.args.self.now.indexed) c.loop-p.invariant c.loop-p-test.true c.cell_at-p.ensures

pub loop-p-preserved : goal.loop-p-preserved
loop-p-preserved c = row_on c.args.key.now (indexed_of c.args.self.now.indexed) c.loop-p.invariant c.loop-p-test.true c.cell_at-from.ensures c.cell_at-to.ensures c.same_parts.ensures c.if-same_parts.false c.cell_at-p.ensures

pub returns : goal.returns
returns c = find_ends c.args.key.now (indexed_of c.args.self.now.indexed) c.loop-p.invariant c.loop-p-test.false
