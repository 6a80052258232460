use Rattle.std.proofs.Common.{◌≡◌, ◌+◌, length, arith}
use Rattle.parts.proofs.Bytes.{at_tab, at_end_lem}
use Rattle.parts.proofs.Numbers.{number_ends, number_below, number_above, number_large, number_on, number_past, first_below, first_above, first_on, zero_got, zero_bad}
use Rattle.parts.proofs.read_number.Goals.{then-first-lt48-via-then-first-lt48, then-first-lt48-via-else-first-lt48+then-first-gt57, then-c-lt48-via-then-c-lt48, then-c-lt48-via-else-c-lt48+then-c-gt57}
use Rattle.parts.proofs.read_number.Goals as goal

pub returns-then-line-at : goal.returns-then-line-at
returns-then-line-at c = number_past _ _ c.if-line-at.true

pub returns-then-ends_at : goal.returns-then-ends_at
returns-then-ends_at c = let e : c.args.at + 2 ≡ c.args.at + 1 + 1 = omega arith in rw e (zero_got _ _ c.if-line-at.false c.if-first-eq48.true c.ends_at.ensures c.if-ends_at.true)

pub returns-then-first-eq48 : goal.returns-then-first-eq48
returns-then-first-eq48 c = zero_bad _ _ c.if-line-at.false c.if-first-eq48.true c.ends_at.ensures c.if-ends_at.false

pub returns-then-first-lt48 : goal.returns-then-first-lt48
returns-then-first-lt48 c =
    elim c.then-first-lt48.branch [ then-first-lt48-via-then-first-lt48 w ↦ first_below _ _ c.if-line-at.false w.if-first-lt48.true | then-first-lt48-via-else-first-lt48+then-first-gt57 w ↦ first_above _ _ c.if-line-at.false w.if-first-gt57.true ]

pub loop-i-init : goal.loop-i-init
loop-i-init c = first_on _ _ c.if-line-at.false c.if-first-eq48.false c.if-first-lt48.false c.if-first-gt57.false

pub returns-then-c-eq9 : goal.returns-then-c-eq9
returns-then-c-eq9 c = number_ends c.loop-i.invariant (at_tab _ _ c.loop-i-test.true c.if-c-eq9.true)

pub returns-then-c-lt48 : goal.returns-then-c-lt48
returns-then-c-lt48 c =
    elim c.then-c-lt48.branch [ then-c-lt48-via-then-c-lt48 w ↦ number_below c.loop-i.invariant c.loop-i-test.true w.if-c-lt48.true c.if-c-eq9.false | then-c-lt48-via-else-c-lt48+then-c-gt57 w ↦ number_above c.loop-i.invariant c.loop-i-test.true w.if-c-gt57.true ]

pub overflow_mul-n : goal.overflow_mul-n
overflow_mul-n c = omega (arith, c.loop-i.invariant.small)

pub overflow_add-n : goal.overflow_add-n
overflow_add-n c = omega (arith, c.loop-i.invariant.small)

pub returns-then-n-gt65535 : goal.returns-then-n-gt65535
returns-then-n-gt65535 c = number_large c.loop-i.invariant c.loop-i-test.true c.if-c-lt48.false c.if-c-gt57.false c.if-n-gt65535.true

pub loop-i-preserved : goal.loop-i-preserved
loop-i-preserved c = number_on c.loop-i.invariant c.loop-i-test.true c.if-c-lt48.false c.if-c-gt57.false c.if-n-gt65535.false

pub returns : goal.returns
returns c = let e : length c.args.line.now ≡ c.loop-i.i = omega (arith, c.loop-i.invariant.inside) in rw e (number_ends c.loop-i.invariant (at_end_lem _ _ c.loop-i-test.false))
