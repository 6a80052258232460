use native.Mathlib.Omega.{arith}
use mathlib.Core.Path.{sym, ◌∙◌}
use borrow.Author.Tests.{eqb-true, eqb-false}
use Rattle.sheet.proofs.Digits.{empty, zero_alone, zero_leads, digits_start, digit_other, digit, digit_large, digits_end}
use Rattle.sheet.proofs.read_up_to.Goals as goal

pub returns-then-is_empty : goal.returns-then-is_empty
returns-then-is_empty c = empty _ _ (eqb-true _ _ (sym c.is_empty.ensures ∙ c.if-is_empty.true))

pub returns-then-f-eq1 : goal.returns-then-f-eq1
returns-then-f-eq1 c = zero_alone _ _ c.if-f-eq48.true c.if-f-eq1.true

pub returns-else-f-eq1 : goal.returns-else-f-eq1
returns-else-f-eq1 c = zero_leads _ _ c.if-f-eq48.true c.if-f-eq1.false

pub loop-c-init : goal.loop-c-init
loop-c-init c = (omega arith, digits_start _ _ (eqb-false _ _ (sym c.is_empty.ensures ∙ c.if-is_empty.false)) c.if-f-eq48.false)

pub returns-then-not-is_ascii_digit : goal.returns-then-not-is_ascii_digit
returns-then-not-is_ascii_digit c = digit_other _ _ _ _ c.loop-c.invariant.1 c.loop-c-test.true c.if-not-is_ascii_digit.ensures.cases

pub returns-then-most-n : goal.returns-then-most-n
returns-then-most-n c = digit_large _ _ _ _ c.loop-c.invariant.1 c.loop-c-test.true c.if-not-is_ascii_digit.ensures.cases.0 c.if-not-is_ascii_digit.ensures.cases.1 c.if-most-n.true

pub loop-c-preserved : goal.loop-c-preserved
loop-c-preserved c = (c.if-most-n.false, digit _ _ _ _ c.loop-c.invariant.1 c.loop-c-test.true c.if-not-is_ascii_digit.ensures.cases.0 c.if-not-is_ascii_digit.ensures.cases.1)

pub returns : goal.returns
returns c = digits_end _ _ _ _ c.loop-c.invariant.1 c.loop-c-test.false c.loop-c.invariant.0
