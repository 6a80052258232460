use Rattle.stored_cases.proofs.Places.{after_within, after_end, after_past}
use Rattle.stored_cases.proofs.after.Goals as goal

pub returns-then-n-s : goal.returns-then-n-s
returns-then-n-s c = after_within _ _ _ c.if-at-s.true c.if-n-s.true

pub returns-else-n-s : goal.returns-else-n-s
returns-else-n-s c = after_end _ _ _ c.if-at-s.true c.if-n-s.false

pub returns-else-at-s : goal.returns-else-at-s
returns-else-at-s c = after_past _ _ _ c.if-at-s.false
