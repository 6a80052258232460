use native.Mathlib.Omega.{arith}
use Rattle.sheet.proofs.Texts.{step_plain_lem, step_ill, step_cut, step_wrong, step_escaped, step_none, len_ill, len_on, len_start, len_end}
use Rattle.sheet.proofs.unescaped_len.Goals as goal

pub loop-i-init : goal.loop-i-init
loop-i-init c = (omega arith, omega arith, len_start _)

pub returns-then-c-eq13 : goal.returns-then-c-eq13
returns-then-c-eq13 c = len_ill _ c.loop-i.invariant.2 (step_ill _ _ c.loop-i-test.true c.if-c-eq13.true)

pub returns-then-f-j : goal.returns-then-f-j
returns-then-f-j c = len_ill _ c.loop-i.invariant.2 (step_cut _ _ c.loop-i-test.true c.if-c-eq92.true c.if-f-j.true)

pub returns-in_err-letter : goal.returns-in_err-letter
returns-in_err-letter c = rw c.from_residual.ensures (len_ill _ c.loop-i.invariant.2 (step_wrong _ _ c.loop-i-test.true c.if-c-eq92.true c.if-f-j.false c.letter.ensures c.in_err-letter.was))

pub loop-i-preserved-then-c-eq92 : goal.loop-i-preserved-then-c-eq92
loop-i-preserved-then-c-eq92 c = (omega arith, omega arith, len_on _ c.loop-i.invariant.2 _ _ (step_escaped _ _ c.loop-i-test.true c.if-c-eq92.true c.if-f-j.false c.letter.ensures c.in_ok-letter.was))

pub loop-i-preserved : goal.loop-i-preserved
loop-i-preserved c = (omega arith, omega arith, len_on _ c.loop-i.invariant.2 _ _ (step_plain_lem _ _ c.loop-i-test.true c.if-c-eq92.false c.if-c-eq13.false))

pub returns : goal.returns
returns c = len_end _ c.loop-i.invariant.2 (step_none _ _ c.loop-i-test.false)
