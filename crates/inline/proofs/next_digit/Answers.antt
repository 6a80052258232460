use native.Mathlib.Omega.{arith}
use Rattle.inline.proofs.Scans.{going_start, going_stop, going_on, going_end, stops_at, goes_by}
use Rattle.inline.proofs.Wide.{wide_passed}
use Rattle.rules.specs.Inline.{is_no_digit}
use Rattle.inline.proofs.next_digit.Goals as goal

pub loop-i-init : goal.loop-i-init
loop-i-init c = going_start _ _ _ c.requires.0 c.requires.1

pub overflow_add-i : goal.overflow_add-i
overflow_add-i c = omega (arith, (wide_passed c.loop-i.invariant c.loop-i-test.true c.if-a-ge128.true c.lead_size-i.ensures).most)

pub loop-i-smaller-then-a-ge128 : goal.loop-i-smaller-then-a-ge128
loop-i-smaller-then-a-ge128 c =
    let k = wide_passed c.loop-i.invariant c.loop-i-test.true c.if-a-ge128.true c.lead_size-i.ensures in
    omega (arith, k.least, k.most)

pub loop-i-preserved-then-a-ge128 : goal.loop-i-preserved-then-a-ge128
loop-i-preserved-then-a-ge128 c = (wide_passed c.loop-i.invariant c.loop-i-test.true c.if-a-ge128.true c.lead_size-i.ensures).still

pub returns-then-is_digit : goal.returns-then-is_digit
unfolding is_no_digit
returns-then-is_digit c = going_stop c.loop-i.invariant _ c.loop-i-test.true c.char_in-c.ensures (stops_at c.is_digit.ensures c.if-is_digit.true)

pub loop-i-preserved : goal.loop-i-preserved
unfolding is_no_digit
loop-i-preserved c = going_on c.loop-i.invariant _ c.loop-i-test.true c.char_in-c.ensures (goes_by c.is_digit.ensures c.if-is_digit.false)

pub returns : goal.returns
returns c = going_end c.loop-i.invariant c.loop-i-test.false
