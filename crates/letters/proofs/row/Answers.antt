use borrow.Author.Tests.{eq-eqb, ne_eqb}
use Rattle.letters.specs.Folded.{folded_of, row_of}
use Rattle.letters.proofs.row.Goals as goal

pub returns-then-b-eq0 : goal.returns-then-b-eq0
unfolding folded_of row_of
returns-then-b-eq0 c = simp (eq-eqb _ _ c.if-b-eq0.true)

pub returns-then-c-eq0 : goal.returns-then-c-eq0
unfolding folded_of row_of
returns-then-c-eq0 c = simp (ne_eqb _ _ c.if-b-eq0.false, eq-eqb _ _ c.if-c-eq0.true)

pub returns : goal.returns
unfolding folded_of row_of
returns c = simp (ne_eqb _ _ c.if-b-eq0.false, ne_eqb _ _ c.if-c-eq0.false)
