use Rattle.page_fields.proofs.Amounts.{scalable_other, scalable_number, scalable_range, scalable_textual}
use Rattle.page_fields.proofs.is_scalable.Goals as goal

pub returns-then-not-of_ingredient : goal.returns-then-not-of_ingredient
returns-then-not-of_ingredient c = scalable_other _ _ _ c.if-not-of_ingredient.true-raw

pub returns-in-Number : goal.returns-in-Number
returns-in-Number c = scalable_number _ _ _ c.if-not-of_ingredient.false-raw c.in-Number.is

pub returns-in-Range : goal.returns-in-Range
returns-in-Range c = scalable_range _ _ _ c.if-not-of_ingredient.false-raw c.in-Range.is

pub returns-in-Textual : goal.returns-in-Textual
returns-in-Textual c = scalable_textual _ _ _ c.if-not-of_ingredient.false-raw c.in-Textual.is
