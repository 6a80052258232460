use mathlib.Core.Path.{◌∙◌}
use native.Mathlib.Omega.{arith}
use borrow.Author.Tests.{not-false}
use Rattle.letters.proofs.Still.{han}
use Rattle.letters.proofs.Ascii.{letter_upper, letter_lower}
use Rattle.rules.specs.Unicode.{is_alphabetic}
use Rattle.rules.specs.Alphabetic.{alphabetic}
use Rattle.rules.proofs.Folds.{alphabetic_ascends}
use Rattle.letters.proofs.Windows.{columns}
use Rattle.letters.proofs.Places.{lent_ready, lent_member}
use Rattle.letters.proofs.is_alphabetic.Goals as goal

pub returns-then-is_within : goal.returns-then-is_within
returns-then-is_within c = letter_lower _ c.if-c-lt128.true c.is_within.ensures c.if-is_within.true

pub returns-else-is_within : goal.returns-else-is_within
returns-else-is_within c = letter_upper _ c.if-c-lt128.true c.is_within.ensures c.if-is_within.false c.is_within-else-is_within.ensures

pub returns-then-is_within-2 : goal.returns-then-is_within-2
returns-then-is_within-2 c = han _ c.is_within-2.ensures c.if-is_within-2.true

pub returns-else-not-is_mark : goal.returns-else-not-is_mark
returns-else-not-is_mark c = c.if-not-is_mark.false-raw ∙ (c.is_mark.ensures (not-false _ c.if-not-is_mark.false-raw)).0

pub slice_bounds-in_ranges-end : goal.slice_bounds-in_ranges-end
slice_bounds-in_ranges-end c = omega (arith, (columns c.unicode_tables-t.ensures).long)

pub slice_bounds-in_ranges-end-then-not-is_mark : goal.slice_bounds-in_ranges-end-then-not-is_mark
slice_bounds-in_ranges-end-then-not-is_mark c = omega (arith, (columns c.unicode_tables-t.ensures).long)

pub in_ranges-requires : goal.in_ranges-requires
in_ranges-requires c = lent_ready alphabetic _ _ (columns c.unicode_tables-t.ensures).alphabetic_starts (columns c.unicode_tables-t.ensures).alphabetic_ends alphabetic_ascends

pub returns-then-not-is_mark : goal.returns-then-not-is_mark
unfolding is_alphabetic
returns-then-not-is_mark c = lent_member alphabetic _ _ (columns c.unicode_tables-t.ensures).alphabetic_starts (columns c.unicode_tables-t.ensures).alphabetic_ends _ _ c.in_ranges.ensures
