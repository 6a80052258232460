use Rattle.text.specs.Meets.{many}
use Rattle.text.proofs.Pairs.{following_end, following_past, following_other}
use Rattle.text.proofs.meets.following.Goals as goal

pub returns-then-s-at : goal.returns-then-s-at
returns-then-s-at c = following_end _ _ _ c.if-s-at.true

pub returns-then-x-z : goal.returns-then-x-z
returns-then-x-z c = following_past _ _ _ c.kept_char-c.ensures _ c.fold.ensures _ c.in-One.is c.if-x-z.true

pub returns-else-x-z : goal.returns-else-x-z
returns-else-x-z c = following_other _ _ _ c.kept_char-c.ensures _ c.fold.ensures _ c.in-One.is c.if-x-z.false

pub returns-in-Two : goal.returns-in-Two
returns-in-Two c = many

pub returns-in-Three : goal.returns-in-Three
returns-in-Three c = many
