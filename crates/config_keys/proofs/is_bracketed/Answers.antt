use Rattle.config_keys.proofs.Keys.{bracket_first, bracket_none, bracket_other}
use Rattle.config_keys.proofs.is_bracketed.Goals as goal

pub returns-then-f-eq0 : goal.returns-then-f-eq0
returns-then-f-eq0 c = bracket_none _ c.if-f-eq0.true

pub returns-then-c-eq91 : goal.returns-then-c-eq91
returns-then-c-eq91 c = bracket_first _ _ c.if-f-eq0.false c.char_in-c.ensures c.if-c-eq91.true c.ends_in_bracket.ensures

pub returns : goal.returns
returns c = bracket_other _ _ c.if-f-eq0.false c.char_in-c.ensures c.if-c-eq91.false
