use Rattle.content.proofs.Paths.{name_plain, name_empty, name_found}
use Rattle.content.proofs.name_place.Goals as goal

pub returns-then-not-is_path : goal.returns-then-not-is_path
returns-then-not-is_path c = name_plain _ c.is_path.ensures c.if-not-is_path.true-raw

pub returns-then-f-start : goal.returns-then-f-start
returns-then-f-start c = name_empty _ c.is_path.ensures c.if-not-is_path.false-raw _ c.last_separator-p.ensures c.if-f-start.true

pub returns : goal.returns
returns c = name_found _ c.is_path.ensures c.if-not-is_path.false-raw _ c.last_separator-p.ensures c.if-f-start.false
