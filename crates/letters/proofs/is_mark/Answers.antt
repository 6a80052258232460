use borrow.Author.Tests.{ltb-true}
use Rattle.letters.proofs.Still.{mark_general, mark_first, mark_second, mark_wide}
use Rattle.letters.proofs.is_mark.Goals as goal

pub returns-then-c-lt12288 : goal.returns-then-c-lt12288
returns-then-c-lt12288 c = λ e. mark_general _ c.is_within.ensures e

pub returns-then-c-lt12293 : goal.returns-then-c-lt12293
returns-then-c-lt12293 c = λ e. mark_first _ c.if-c-lt12288.false c.if-c-lt12293.true

pub returns-then-c-lt12321 : goal.returns-then-c-lt12321
returns-then-c-lt12321 c = λ e. mark_second _ (ltb-true _ _ e) c.if-c-lt12321.true

pub returns : goal.returns
returns c = λ e. mark_wide _ c.is_within-2.ensures e
