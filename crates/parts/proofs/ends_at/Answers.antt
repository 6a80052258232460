use Rattle.std.proofs.Common.{◌∙◌, le-leb}
use Rattle.parts.proofs.Bytes.{ends_end, ends_byte}
use Rattle.parts.proofs.ends_at.Goals as goal

pub returns-then-line-at : goal.returns-then-line-at
returns-then-line-at c = le-leb _ _ c.if-line-at.true ∙ ends_end _ _ c.if-line-at.true

pub returns-else-line-at : goal.returns-else-line-at
returns-else-line-at c = ends_byte _ _ c.if-line-at.false
