use borrow.Author.Tests.{eq-eqb, ne_eqb}
use Rattle.model.specs.Rows.{relation_of}
use Rattle.model.proofs.relation_of.Goals as goal

pub returns-then-n-eq0 : goal.returns-then-n-eq0
unfolding relation_of
returns-then-n-eq0 c = simp (eq-eqb _ _ c.if-n-eq0.true)

pub returns-then-n-eq1 : goal.returns-then-n-eq1
unfolding relation_of
returns-then-n-eq1 c = simp (ne_eqb _ _ c.if-n-eq0.false, eq-eqb _ _ c.if-n-eq1.true)

pub returns-then-n-eq2 : goal.returns-then-n-eq2
unfolding relation_of
returns-then-n-eq2 c = simp (ne_eqb _ _ c.if-n-eq0.false, ne_eqb _ _ c.if-n-eq1.false, eq-eqb _ _ c.if-n-eq2.true)

pub returns : goal.returns
unfolding relation_of
returns c = simp (ne_eqb _ _ c.if-n-eq0.false, ne_eqb _ _ c.if-n-eq1.false, ne_eqb _ _ c.if-n-eq2.false)
