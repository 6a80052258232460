use mathlib.Core.Path.{◌∙◌}
use native.Mathlib.Omega.{arith}
use borrow.Author.Tests.{not-false}
use Rattle.letters.proofs.Ascii.{digit}
use Rattle.rules.specs.Unicode.{is_numeric}
use Rattle.rules.specs.Numeric.{numeric}
use Rattle.rules.proofs.Folds.{numeric_ascends}
use Rattle.letters.proofs.Windows.{columns}
use Rattle.letters.proofs.Places.{lent_ready, lent_member}
use Rattle.letters.proofs.is_numeric.Goals as goal

pub returns-then-c-lt128 : goal.returns-then-c-lt128
returns-then-c-lt128 c = digit _ c.if-c-lt128.true c.is_within.ensures

pub returns-else-not-is_mark : goal.returns-else-not-is_mark
returns-else-not-is_mark c = c.if-not-is_mark.false-raw ∙ (c.is_mark.ensures (not-false _ c.if-not-is_mark.false-raw)).1

pub slice_bounds-in_ranges-end : goal.slice_bounds-in_ranges-end
slice_bounds-in_ranges-end c = omega (arith, (columns c.unicode_tables-t.ensures).long)

pub slice_bounds-in_ranges-end-then-not-is_mark : goal.slice_bounds-in_ranges-end-then-not-is_mark
slice_bounds-in_ranges-end-then-not-is_mark c = omega (arith, (columns c.unicode_tables-t.ensures).long)

pub in_ranges-requires : goal.in_ranges-requires
in_ranges-requires c = lent_ready numeric _ _ (columns c.unicode_tables-t.ensures).numeric_starts (columns c.unicode_tables-t.ensures).numeric_ends numeric_ascends

pub returns-then-not-is_mark : goal.returns-then-not-is_mark
unfolding is_numeric
returns-then-not-is_mark c = lent_member numeric _ _ (columns c.unicode_tables-t.ensures).numeric_starts (columns c.unicode_tables-t.ensures).numeric_ends _ _ c.in_ranges.ensures
