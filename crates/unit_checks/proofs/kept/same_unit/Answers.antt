use native.Mathlib.Omega.{arith}
use Rattle.unit_checks.proofs.Codes.{same_absent, same_unitless, same_at, same_placed}
use Rattle.unit_codes.specs.Codes.{start_in, end_in}
use Rattle.unit_checks.proofs.kept.same_unit.Goals as goal
use Rattle.unit_checks.proofs.kept.same_unit.Goals.{then-w-ge16, else-w-ge16+in-At}

pub slice_bounds-u-count : goal.slice_bounds-u-count
unfolding start_in end_in
slice_bounds-u-count c = let u = c.requires.1 c.if-w-ge16.true in omega (arith, u.order, u.ends)

pub slice_bounds-u-start : goal.slice_bounds-u-start
unfolding start_in end_in
slice_bounds-u-start c = let u = c.requires.1 c.if-w-ge16.true in omega (arith, u.order, u.ends)

pub slice_bounds-u-end : goal.slice_bounds-u-end
unfolding start_in end_in
slice_bounds-u-end c = let u = c.requires.1 c.if-w-ge16.true in omega (arith, u.order, u.ends)

pub returns-in-NoQuantity : goal.returns-in-NoQuantity
returns-in-NoQuantity c = same_absent c.unit_in.ensures c.in-NoQuantity.is

pub returns-in-NoUnit : goal.returns-in-NoUnit
returns-in-NoUnit c = same_unitless c.unit_in.ensures c.in-NoUnit.is

pub returns : goal.returns
unfolding start_in end_in
returns c =
    elim c.if-w-ge16.branch [
      | then-w-ge16 w ↦ same_placed (c.requires.1 w.if-w-ge16.true) (rw w.u-is at c.same_written.ensures)
      | else-w-ge16+in-At w ↦ same_at w.unit_in.ensures w.in-At.is w.part_of.ensures (rw w.u-is at c.same_written.ensures)
    ]
