use native.Mathlib.Omega.{arith}
use Rattle.content.proofs.Chars.{content_step}
use Rattle.content.proofs.Kept.{kept_other, kept_blank}
use Rattle.content.proofs.any_kept.Goals as goal

pub returns-then-c-ne32 : goal.returns-then-c-ne32
returns-then-c-ne32 c = kept_other _ _ _ c.requires c.char_in-c.ensures c.if-c-ne32.true

pub overflow_add-at : goal.overflow_add-at
overflow_add-at c = omega (arith, (content_step _ _ _ c.requires c.char_in-c.ensures).most)

pub skip_blanks-r-requires : goal.skip_blanks-r-requires
skip_blanks-r-requires c = omega (arith, (content_step _ _ _ c.requires c.char_in-c.ensures).most)

pub overflow_sub-result : goal.overflow_sub-result
overflow_sub-result c = omega (arith, c.skip_blanks-r.ensures.least)

pub returns : goal.returns
returns c = kept_blank _ _ _ c.requires c.char_in-c.ensures c.if-c-ne32.false c.skip_blanks-r.ensures
