use mathlib.Core.Path.{refl}
use Rattle.content.proofs.Kept.{kept_wide, kept_ascii}
use Rattle.content.proofs.kept_char.Goals as goal

pub returns-then-a-ge128 : goal.returns-then-a-ge128
returns-then-a-ge128 c = kept_wide _ _ c.requires c.if-a-ge128.true c.char_at.ensures

pub returns : goal.returns
returns c = kept_ascii _ _ c.requires refl c.if-a-ge128.false c.if-a-eq92.false c.if-a-eq32.false
