use Rattle.std.proofs.Common.{arith}
use Rattle.rules.specs.Read.{read_content, content_of}
use Rattle.parts.proofs.Leaves.{leaf_past}
use Rattle.parts.proofs.Bytes.{at_tab, at_end_lem}
use Rattle.parts.proofs.Escapes.{content_ends, content_plain, content_ill, content_cut, content_wrong, content_escaped}
use Rattle.parts.proofs.Near.{content_past}
use Rattle.parts.proofs.read_content.Goals as goal

pub returns-then-line-at : goal.returns-then-line-at
unfolding read_content
returns-then-line-at c = leaf_past content_of c.if-line-at.true

pub loop-i-init : goal.loop-i-init
loop-i-init c = content_past c.if-line-at.false c.past_plain-i.ensures

pub returns-then-c-eq9 : goal.returns-then-c-eq9
returns-then-c-eq9 c = content_ends c.loop-i.invariant (at_tab _ _ c.loop-i-test.true c.if-c-eq9.true)

pub returns-then-c-eq13 : goal.returns-then-c-eq13
returns-then-c-eq13 c = content_ill c.loop-i.invariant c.loop-i-test.true c.if-c-eq13.true

pub returns-then-line-j : goal.returns-then-line-j
returns-then-line-j c = content_cut c.loop-i.invariant c.loop-i-test.true c.if-c-eq92.true c.if-line-j.true

pub returns-in_err-letter : goal.returns-in_err-letter
returns-in_err-letter c = rw c.from_residual.ensures (content_wrong c.loop-i.invariant c.loop-i-test.true c.if-c-eq92.true c.if-line-j.false c.letter.ensures c.in_err-letter.was)

pub loop-i-preserved-then-c-eq92 : goal.loop-i-preserved-then-c-eq92
loop-i-preserved-then-c-eq92 c = content_escaped c.loop-i.invariant c.loop-i-test.true c.if-c-eq92.true c.if-line-j.false c.letter.ensures c.in_ok-letter.was

pub loop-i-preserved-then-c-gt13 : goal.loop-i-preserved-then-c-gt13
loop-i-preserved-then-c-gt13 c =
    let h = c.if-c-gt13.true in
    content_plain c.loop-i.invariant c.loop-i-test.true (λ e. omega arith) c.if-c-eq92.false (λ e. omega arith)

pub loop-i-preserved : goal.loop-i-preserved
loop-i-preserved c = content_plain c.loop-i.invariant c.loop-i-test.true c.if-c-eq9.false c.if-c-eq92.false c.if-c-eq13.false

pub overflow_add-result-2 : goal.overflow_add-result-2
overflow_add-result-2 c = omega (arith, c.loop-i.invariant.inside)

pub returns : goal.returns
returns c = content_ends c.loop-i.invariant (at_end_lem _ _ c.loop-i-test.false)
