use native.Mathlib.Omega.{arith}
use borrow.Author.Tests.{eq-eqb}
use mathlib.Core.Logic.{inl, inr}
use Rattle.letters.proofs.Places.{lent_ready, lent_member}
use Rattle.letters.proofs.Windows.{columns}
use Rattle.rules.proofs.Folds.{white_ascends}
use Rattle.rules.specs.WhiteSpace.{white_space}
use Rattle.rules.specs.Unicode.{is_white_space}
use Rattle.letters.proofs.Ascii.{white_blank, white_other}
use Rattle.letters.proofs.Still.{no_white, past_white}
use Rattle.letters.proofs.is_white_space.Goals as goal

pub returns-then-c-eq32 : goal.returns-then-c-eq32
returns-then-c-eq32 c = rw (eq-eqb _ _ c.if-c-eq32.true) (white_blank _ c.if-c-lt128.true c.if-c-eq32.true)

pub returns-else-c-eq32 : goal.returns-else-c-eq32
returns-else-c-eq32 c = white_other _ c.if-c-lt128.true c.if-c-eq32.false c.is_within.ensures

pub returns-then-c-gt12288 : goal.returns-then-c-gt12288
returns-then-c-gt12288 c =
    elim c.if-c-gt12288.either [ inl l ↦ no_white _ c.if-c-gt160.true l | inr g ↦ past_white _ g.1 (omega (arith, c.ranges.c)) ]

pub slice_bounds-in_ranges-end : goal.slice_bounds-in_ranges-end
slice_bounds-in_ranges-end c = omega (arith, (columns c.unicode_tables-t.ensures).long)

pub slice_bounds-in_ranges-end-2 : goal.slice_bounds-in_ranges-end-2
slice_bounds-in_ranges-end-2 c = omega (arith, (columns c.unicode_tables-t.ensures).long)

pub in_ranges-requires : goal.in_ranges-requires
in_ranges-requires c = lent_ready white_space _ _ (columns c.unicode_tables-t.ensures).white_starts (columns c.unicode_tables-t.ensures).white_ends white_ascends

pub returns : goal.returns
unfolding is_white_space
returns c = lent_member white_space _ _ (columns c.unicode_tables-t.ensures).white_starts (columns c.unicode_tables-t.ensures).white_ends _ _ c.in_ranges.ensures
