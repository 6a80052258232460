use native.Mathlib.Omega.{arith}
use Rattle.unit_checks.proofs.Units.{row_checked}
use Rattle.unit_checks.proofs.Rows.{row_fits, line_kind}
use Rattle.rules.specs.Model.{ingredient}
use Rattle.memory.proofs.Reading.{row_room}
use Rattle.unit_checks.proofs.row_against.Goals as goal

pub row-r-requires : goal.row-r-requires
row-r-requires c = row_room ingredient c.args.memory.now.sound c.requires.2

pub slice_bounds-quantity_in-count : goal.slice_bounds-quantity_in-count
slice_bounds-quantity_in-count c = let f = row_fits c.requires.1 ingredient c.args.i c.requires.2 c.row-r.ensures in omega (arith, f.line.order, f.line.most)

pub slice_bounds-quantity_in-start : goal.slice_bounds-quantity_in-start
slice_bounds-quantity_in-start c = let f = row_fits c.requires.1 ingredient c.args.i c.requires.2 c.row-r.ensures in omega (arith, f.line.order, f.line.most)

pub slice_bounds-quantity_in-end : goal.slice_bounds-quantity_in-end
slice_bounds-quantity_in-end c = let f = row_fits c.requires.1 ingredient c.args.i c.requires.2 c.row-r.ensures in omega (arith, f.line.order, f.line.most)

pub quantity_in-b-requires : goal.quantity_in-b-requires
quantity_in-b-requires c = let f = row_fits c.requires.1 ingredient c.args.i c.requires.2 c.row-r.ensures in line_kind ingredient f

pub slice_bounds-unit_pair-count : goal.slice_bounds-unit_pair-count
slice_bounds-unit_pair-count c = let f = row_fits c.requires.1 ingredient c.args.i c.requires.2 c.row-r.ensures in omega (arith, f.line.order, f.line.most)

pub slice_bounds-unit_pair-start : goal.slice_bounds-unit_pair-start
slice_bounds-unit_pair-start c = let f = row_fits c.requires.1 ingredient c.args.i c.requires.2 c.row-r.ensures in omega (arith, f.line.order, f.line.most)

pub slice_bounds-unit_pair-end : goal.slice_bounds-unit_pair-end
slice_bounds-unit_pair-end c = let f = row_fits c.requires.1 ingredient c.args.i c.requires.2 c.row-r.ensures in omega (arith, f.line.order, f.line.most)

pub unit_pair-requires : goal.unit_pair-requires
unit_pair-requires c = (c.requires.0, c.quantity_in-b.ensures.within)

pub returns : goal.returns
returns c = row_checked c.args.i c.requires.1 c.requires.2 c.row-r.ensures c.quantity_in-b.ensures c.unit_pair.ensures
