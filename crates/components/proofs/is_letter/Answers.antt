use Rattle.components.proofs.Leaves.{letter_past, letter_is}
use Rattle.components.proofs.is_letter.Goals as goal

pub returns-then-at-f : goal.returns-then-at-f
returns-then-at-f c = letter_is _ _ _ c.if-at-f.true

pub returns-else-at-f : goal.returns-else-at-f
returns-else-at-f c = letter_past _ _ _ c.if-at-f.false
