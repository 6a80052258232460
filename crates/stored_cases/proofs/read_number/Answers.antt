use native.Mathlib.Omega.{arith}
use Rattle.stored_cases.proofs.Numbers.{no_digits, one_digit_more, nine_digits, number_starts, file_ends, no_digit, number_ends, byte_below, byte_above, tenth_digit, digit}
use Rattle.stored_cases.proofs.read_number.Goals as goal
use Rattle.stored_cases.proofs.read_number.Goals.{then-b-lt48-via-then-b-lt48, then-b-lt48-via-else-b-lt48+then-b-gt57, then-b-lt48-via-else-b-lt48+else-b-gt57+then-count-ge9}

pub loop-i-init : goal.loop-i-init
loop-i-init c = (number_starts _ _ _, no_digits)

pub returns-then-count-eq0 : goal.returns-then-count-eq0
returns-then-count-eq0 c = no_digit _ _ _ _ _ c.loop-i.invariant.0 c.loop-i-test.true c.if-b-end.true c.if-count-eq0.true

pub returns-then-b-end : goal.returns-then-b-end
returns-then-b-end c = number_ends _ _ _ _ _ c.loop-i.invariant.0 c.loop-i-test.true c.if-b-end.true c.if-count-eq0.false

pub returns-then-b-lt48 : goal.returns-then-b-lt48
returns-then-b-lt48 c = elim c.then-b-lt48.branch [
  | then-b-lt48-via-then-b-lt48 w ↦ byte_below _ _ _ _ _ c.loop-i.invariant.0 c.loop-i-test.true c.if-b-end.false w.if-b-lt48.true
  | then-b-lt48-via-else-b-lt48+then-b-gt57 w ↦ byte_above _ _ _ _ _ c.loop-i.invariant.0 c.loop-i-test.true c.if-b-end.false w.if-b-gt57.true
  | then-b-lt48-via-else-b-lt48+else-b-gt57+then-count-ge9 w ↦ tenth_digit _ _ _ _ _ c.loop-i.invariant.0 c.loop-i-test.true c.if-b-end.false w.if-count-ge9.true
]

pub overflow_mul-n : goal.overflow_mul-n
overflow_mul-n c = omega (arith, nine_digits _ _ c.loop-i.invariant.1 c.if-count-ge9.false)

pub overflow_add-n : goal.overflow_add-n
overflow_add-n c = omega (arith, nine_digits _ _ c.loop-i.invariant.1 c.if-count-ge9.false)

pub loop-i-preserved : goal.loop-i-preserved
loop-i-preserved c = (digit _ _ _ _ _ c.loop-i.invariant.0 c.loop-i-test.true c.if-b-end.false c.if-b-lt48.false c.if-b-gt57.false c.if-count-ge9.false, one_digit_more _ _ _ c.loop-i.invariant.1 (omega arith))

pub returns : goal.returns
returns c = file_ends _ _ _ _ _ c.loop-i.invariant.0 c.loop-i-test.false
