use Rattle.page_fields.proofs.Letters.{letter_set, letter_none, letter_past}
use Rattle.page_fields.proofs.put_letter.Goals as goal

pub returns-then-is_set : goal.returns-then-is_set
returns-then-is_set c = letter_set _ c.if-is_set.true c.put_byte.ensures

pub returns-then-at-out : goal.returns-then-at-out
returns-then-at-out c = letter_none _ c.if-is_set.false c.if-at-out.true

pub returns-else-at-out : goal.returns-else-at-out
returns-else-at-out c = letter_past _ c.if-is_set.false c.if-at-out.false
