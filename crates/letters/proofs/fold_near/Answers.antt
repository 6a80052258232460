use borrow.Author.Rules.{rules}
use native.Mathlib.Omega.{arith}
use mathlib.Core.Path.{refl}
use Rattle.letters.specs.Folded.{folded_of}
use Rattle.letters.proofs.Near.{near_one, near_few, near_row}
use Rattle.letters.proofs.Windows.{columns}
use Rattle.letters.proofs.fold_near.Goals as goal

pub bounds-unicode_tables-i : goal.bounds-unicode_tables-i
bounds-unicode_tables-i c = omega (arith, (columns c.unicode_tables.ensures).long, c.requires)

pub returns-then-x-lt1114112 : goal.returns-then-x-lt1114112
unfolding folded_of
returns-then-x-lt1114112 c = near_one _ c.unicode_tables.ensures _ c.requires refl c.if-x-lt1114112.true

pub overflow_cast-k : goal.overflow_cast-k
overflow_cast-k c = let k = near_few _ c.unicode_tables.ensures _ c.requires refl c.if-x-lt1114112.false in search rules

pub row_at-requires : goal.row_at-requires
row_at-requires c = near_few _ c.unicode_tables.ensures _ c.requires refl c.if-x-lt1114112.false

pub returns : goal.returns
returns c = near_row _ c.unicode_tables.ensures _ c.requires refl c.if-x-lt1114112.false _ c.row_at.ensures
