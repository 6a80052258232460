use borrow.Author.Tests.{eq-eqb}
use Rattle.content.proofs.Paths.{back_separator, other_separator}
use Rattle.content.proofs.is_separator.Goals as goal

pub returns-then-c-eq92 : goal.returns-then-c-eq92
returns-then-c-eq92 c = rw (eq-eqb _ _ c.if-c-eq92.true) (back_separator _ c.if-c-eq92.true)

pub returns-else-c-eq92 : goal.returns-else-c-eq92
returns-else-c-eq92 c = other_separator _ c.if-c-eq92.false
