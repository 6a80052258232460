use Rattle.config_keys.proofs.Keys.{key_define, key_duplicate, key_ordinary, key_unknown}
use Rattle.config_keys.proofs.key_of.Goals as goal

pub returns-then-is_bracketed : goal.returns-then-is_bracketed
returns-then-is_bracketed c = key_unknown c.text_outer_trimmed-w.ensures c.in-None.ensures c.is_bracketed.ensures c.if-is_bracketed.true

pub returns-in-Some-Define : goal.returns-in-Some-Define
returns-in-Some-Define c = key_define c.text_outer_trimmed-w.ensures (rw c.in-Some-Define.field-0-is at c.in-Some-Define.ensures)

pub returns-in-Some-Duplicate : goal.returns-in-Some-Duplicate
returns-in-Some-Duplicate c = key_duplicate c.text_outer_trimmed-w.ensures (rw c.in-Some-Duplicate.field-0-is at c.in-Some-Duplicate.ensures)

pub returns-else-is_bracketed : goal.returns-else-is_bracketed
returns-else-is_bracketed c = key_ordinary c.text_outer_trimmed-w.ensures c.in-None.ensures c.is_bracketed.ensures c.if-is_bracketed.false
