use Rattle.parts.proofs.Generic.{word_past, word_none, word_some}
use Rattle.parts.proofs.read_word.Goals as goal

pub returns-then-line-at : goal.returns-then-line-at
returns-then-line-at g c = word_past c.if-line-at.true

pub returns-in_err-x : goal.returns-in_err-x
returns-in_err-x g c = rw c.from_residual.ensures (word_none c.if-line-at.false c.field-f.ensures (_, c.in_err-x.ensures, c.field-f.ensures))

pub returns : goal.returns
returns g c = word_some c.if-line-at.false c.field-f.ensures (_, c.in_ok-x.ensures, c.field-f.ensures)
