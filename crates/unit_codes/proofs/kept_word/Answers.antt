use Rattle.unit_codes.proofs.Codes.{kept_here, kept_start, kept_end}
use Rattle.unit_codes.proofs.kept_word.Goals as goal

pub returns-then-codes-i-2 : goal.returns-then-codes-i-2
returns-then-codes-i-2 c = kept_here _ _ _ _ c.if-codes-i.true c.if-codes-i-2.true

pub returns-else-codes-i-2 : goal.returns-else-codes-i-2
returns-else-codes-i-2 c = kept_end _ _ _ _ c.if-codes-i.true c.if-codes-i-2.false

pub returns-else-codes-i : goal.returns-else-codes-i
returns-else-codes-i c = kept_start _ _ _ _ c.if-codes-i.false
