use borrow.Author.Tests.{le-ltb}
use Rattle.content.proofs.Paths.{separator_none, separator_some}
use Rattle.content.proofs.separator_at.Goals as goal

pub returns-then-at-f : goal.returns-then-at-f
returns-then-at-f c = separator_some _ _ _ c.if-at-f.true c.char_in.ensures c.is_separator.ensures

pub returns-else-at-f : goal.returns-else-at-f
returns-else-at-f c = rw (le-ltb _ _ c.if-at-f.false) (separator_none _ _ c.if-at-f.false)
