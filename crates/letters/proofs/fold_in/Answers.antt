use native.Mathlib.Omega.{arith}
use Rattle.letters.specs.Folded.{folded_of}
use Rattle.letters.proofs.Rows.{window_ascends, row_found, row_other, row_past}
use Rattle.letters.proofs.Windows.{columns}
use Rattle.letters.proofs.fold_in.Goals.{else-k-lt1557-via-else-k-lt1557, else-k-lt1557-via-then-k-lt1557+else-t-k}
use Rattle.letters.proofs.fold_in.Goals as goal

pub slice_bounds-lower_bound-end : goal.slice_bounds-lower_bound-end
slice_bounds-lower_bound-end c = omega (arith, (columns c.unicode_tables-t.ensures).long)

pub lower_bound-k-requires : goal.lower_bound-k-requires
lower_bound-k-requires c = window_ascends _ c.unicode_tables-t.ensures

pub bounds-t-k : goal.bounds-t-k
bounds-t-k c = omega (arith, (columns c.unicode_tables-t.ensures).long)

pub returns-then-t-k : goal.returns-then-t-k
returns-then-t-k c = row_found _ c.unicode_tables-t.ensures _ _ c.lower_bound-k.ensures c.if-k-lt1557.true c.if-t-k.true c.row_at.ensures

pub returns : goal.returns
unfolding folded_of
returns c =
    elim c.else-k-lt1557.branch [ else-k-lt1557-via-else-k-lt1557 w ↦ row_past _ c.unicode_tables-t.ensures _ _ c.lower_bound-k.ensures w.if-k-lt1557.false | else-k-lt1557-via-then-k-lt1557+else-t-k w ↦ row_other _ c.unicode_tables-t.ensures _ _ c.lower_bound-k.ensures w.if-k-lt1557.true w.if-t-k.false ]
