use mathlib.Core.Path.{refl}
use Rattle.content.proofs.Chars.{in_ascii, in_wide}
use Rattle.content.proofs.char_in.Goals as goal

pub returns-then-a-ne92 : goal.returns-then-a-ne92
returns-then-a-ne92 c = in_ascii _ _ c.requires refl c.if-a-lt128.true c.if-a-ne92.true

pub returns : goal.returns
returns c = in_wide _ _ c.requires c.if-a-lt128.false c.char_at.ensures
