use Rattle.components.proofs.Leaves.{after_past, after_hit, after_miss}
use Rattle.components.proofs.after_letter.Goals as goal

pub returns-then-f-at : goal.returns-then-f-at
returns-then-f-at c = after_past _ _ _ c.if-f-at.true

pub returns-then-f-at-2 : goal.returns-then-f-at-2
returns-then-f-at-2 c = after_hit _ _ _ c.if-f-at.false c.if-f-at-2.true

pub returns : goal.returns
returns c = after_miss _ _ _ c.if-f-at.false c.if-f-at-2.false
