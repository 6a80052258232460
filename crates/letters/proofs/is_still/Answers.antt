use borrow.Author.Tests.{ltb-true}
use Rattle.letters.proofs.Still.{still_east, still_han, still_hangul}
use Rattle.letters.proofs.is_still.Goals as goal

pub returns-then-c-lt11507 : goal.returns-then-c-lt11507
returns-then-c-lt11507 c = λ e. still_east _ c.requires (ltb-true _ _ e)

pub returns-then-c-lt42560 : goal.returns-then-c-lt42560
returns-then-c-lt42560 c = λ e. still_han _ c.if-c-lt11507.false c.if-c-lt42560.true

pub returns : goal.returns
returns c = λ e. still_hangul _ c.is_within.ensures e
