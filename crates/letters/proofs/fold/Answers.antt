use borrow.Author.Rules.{rules}
use native.Mathlib.Omega.{arith}
use mathlib.Core.Path.{sym, ap, ◌∙◌}
use Rattle.letters.specs.Folded.{folded_of}
use Rattle.letters.proofs.Near.{near_first, near_second}
use Rattle.letters.proofs.Ascii.{fold_upper, fold_other}
use Rattle.rules.proofs.Basics.{within_from, within_to}
use Rattle.rules.specs.Unicode.{fold}
use Rattle.letters.proofs.fold.Goals as goal

pub returns-then-is_within : goal.returns-then-is_within
unfolding folded_of
returns-then-is_within c = fold_upper _ c.if-c-lt128.true c.is_within.ensures c.if-is_within.true

pub returns-then-c-lt128 : goal.returns-then-c-lt128
unfolding folded_of
returns-then-c-lt128 c = fold_other _ c.if-c-lt128.true c.is_within.ensures c.if-is_within.false

pub returns-then-c-lt1416 : goal.returns-then-c-lt1416
returns-then-c-lt1416 c = c.fold_near.ensures ∙ ap fold (near_first _ c.if-c-lt128.false c.if-c-lt1416.true)

pub returns-then-is_still : goal.returns-then-is_still
unfolding folded_of
returns-then-is_still c = c.is_still.ensures c.if-is_still.true

pub overflow_sub-c-then-is_within-2 : goal.overflow_sub-c-then-is_within-2
overflow_sub-c-then-is_within-2 c = within_from 0x1e00 0x1fff c.args.c (sym c.is_within-2.ensures ∙ c.if-is_within-2.true)

pub overflow_add-c : goal.overflow_add-c
overflow_add-c c = omega (arith, within_to 0x1e00 0x1fff c.args.c (sym c.is_within-2.ensures ∙ c.if-is_within-2.true))

pub overflow_cast-c-then-is_within-2 : goal.overflow_cast-c-then-is_within-2
overflow_cast-c-then-is_within-2 c = let k = within_to 0x1e00 0x1fff c.args.c (sym c.is_within-2.ensures ∙ c.if-is_within-2.true) in search rules

pub fold_near-requires-then-is_within-2 : goal.fold_near-requires-then-is_within-2
fold_near-requires-then-is_within-2 c = omega (arith, within_to 0x1e00 0x1fff c.args.c (sym c.is_within-2.ensures ∙ c.if-is_within-2.true), within_from 0x1e00 0x1fff c.args.c (sym c.is_within-2.ensures ∙ c.if-is_within-2.true))

pub returns-then-is_within-2 : goal.returns-then-is_within-2
returns-then-is_within-2 c = c.fold_near-then-is_within-2.ensures ∙ ap fold (near_second _ (within_from 0x1e00 0x1fff c.args.c (sym c.is_within-2.ensures ∙ c.if-is_within-2.true)))
