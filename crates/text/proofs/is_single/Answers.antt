use native.Mathlib.Omega.{arith}
use Rattle.text.proofs.Singles.{stay_none, to_end, past_blank, two_blanks, stay_end}
use Rattle.text.proofs.is_single.Goals as goal

pub loop-i-init : goal.loop-i-init
loop-i-init c = (omega arith, stay_none _)

pub returns-then-j-w : goal.returns-then-j-w
returns-then-j-w c = to_end _ _ _ c.loop-i.invariant.1 c.next_blank-j.ensures c.if-j-w.true

pub is_blank_after-requires : goal.is_blank_after-requires
is_blank_after-requires c = omega (arith, c.next_blank-j.ensures.inside, c.if-j-w.false)

pub returns-then-is_blank_after : goal.returns-then-is_blank_after
returns-then-is_blank_after c = two_blanks _ _ _ c.loop-i.invariant.1 c.next_blank-j.ensures c.if-j-w.false c.is_blank_after.ensures c.if-is_blank_after.true

pub overflow_add-i : goal.overflow_add-i
overflow_add-i c = omega (arith, c.next_blank-j.ensures.inside)

pub loop-i-smaller : goal.loop-i-smaller
loop-i-smaller c = omega (arith, c.next_blank-j.ensures.before.from, c.next_blank-j.ensures.inside, c.loop-i-test.true)

pub loop-i-preserved : goal.loop-i-preserved
loop-i-preserved c = (omega (arith, c.next_blank-j.ensures.inside, c.if-j-w.false), past_blank _ _ _ c.loop-i.invariant.1 c.next_blank-j.ensures c.if-j-w.false c.is_blank_after.ensures c.if-is_blank_after.false)

pub returns : goal.returns
returns c = stay_end _ _ c.loop-i.invariant.1 c.loop-i.invariant.0 c.loop-i-test.false
