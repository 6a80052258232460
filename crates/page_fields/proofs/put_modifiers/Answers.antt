use Rattle.page_fields.proofs.Letters.{put_point, put_some}
use Rattle.page_fields.proofs.put_modifiers.Goals as goal

pub returns-then-has_none : goal.returns-then-has_none
returns-then-has_none c = put_point _ c.has_none.ensures c.put_byte-n.ensures c.if-has_none.true c.put_byte.ensures

pub returns : goal.returns
returns c = put_some _ c.has_none.ensures c.put_byte-n.ensures c.if-has_none.false c.put_letters.ensures
