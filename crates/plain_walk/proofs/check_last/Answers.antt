use native.Mathlib.Omega.{arith}
use Rattle.plain_walk.proofs.Faults.{last_part_lem, last_none, last_same, last_other}
use Rattle.plain_walk.proofs.check_last.Goals as goal

pub row_name-from-requires : goal.row_name-from-requires
row_name-from-requires c = c.requires.row

pub slice_bounds-same_name_before-count : goal.slice_bounds-same_name_before-count
slice_bounds-same_name_before-count c = omega (arith, (last_part_lem c.requires c.row_name-from.ensures).0)

pub slice_bounds-same_name_before-start : goal.slice_bounds-same_name_before-start
slice_bounds-same_name_before-start c = let p = last_part_lem c.requires c.row_name-from.ensures in omega (arith, p.0, p.1)

pub slice_bounds-same_name_before-end : goal.slice_bounds-same_name_before-end
slice_bounds-same_name_before-end c = let p = last_part_lem c.requires c.row_name-from.ensures in omega (arith, p.0, p.1)

pub same_name_before-requires : goal.same_name_before-requires
same_name_before-requires c =
    let r = c.requires.row in
    (record { few = omega (arith, r.few); there = omega (arith, r.there) }, record { at = λ i l. c.requires.names.at i (omega (arith, l)) })

pub returns-then-l-d : goal.returns-then-l-d
returns-then-l-d c = last_same c.requires c.row_name-from.ensures _ c.same_name_before.ensures _ c.in-Some.is c.if-l-d.true

pub returns-in-None : goal.returns-in-None
returns-in-None c = last_none c.requires c.row_name-from.ensures _ c.same_name_before.ensures c.in-None.is

pub returns-else-l-d : goal.returns-else-l-d
returns-else-l-d c = last_other c.requires c.row_name-from.ensures _ c.same_name_before.ensures _ c.in-Some.is c.if-l-d.false
