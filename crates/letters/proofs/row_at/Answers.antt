use native.Mathlib.Omega.{arith}
use Rattle.letters.proofs.Windows.{columns}
use Rattle.letters.proofs.row_at.Goals as goal

pub bounds-t-k : goal.bounds-t-k
bounds-t-k c = omega (arith, (columns c.unicode_tables-t.ensures).long, c.requires)

pub bounds-t-k-2 : goal.bounds-t-k-2
bounds-t-k-2 c = omega (arith, (columns c.unicode_tables-t.ensures).long, c.requires)

pub bounds-t-k-3 : goal.bounds-t-k-3
bounds-t-k-3 c = omega (arith, (columns c.unicode_tables-t.ensures).long, c.requires)
