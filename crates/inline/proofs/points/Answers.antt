use native.Mathlib.Omega.{arith}
use Rattle.content.proofs.Chars.{content_step}
use Rattle.inline.proofs.Scans.{pointed_start, pointed_end, point_next, other_next}
use Rattle.inline.proofs.points.Goals as goal

pub loop-i-init : goal.loop-i-init
loop-i-init c = pointed_start _

pub overflow_add-i : goal.overflow_add-i
overflow_add-i c = omega (arith, (content_step _ _ _ c.loop-i-test.true c.char_in-c.ensures).most)

pub overflow_add-n : goal.overflow_add-n
overflow_add-n c = omega (arith, c.loop-i.invariant.few)

pub loop-i-smaller-then-c-eq46 : goal.loop-i-smaller-then-c-eq46
loop-i-smaller-then-c-eq46 c = omega (arith, (content_step _ _ _ c.loop-i-test.true c.char_in-c.ensures).most, (content_step _ _ _ c.loop-i-test.true c.char_in-c.ensures).least)

pub loop-i-preserved-then-c-eq46 : goal.loop-i-preserved-then-c-eq46
loop-i-preserved-then-c-eq46 c = point_next c.loop-i.invariant _ c.loop-i-test.true c.char_in-c.ensures c.if-c-eq46.true

pub loop-i-smaller : goal.loop-i-smaller
loop-i-smaller c = omega (arith, (content_step _ _ _ c.loop-i-test.true c.char_in-c.ensures).most, (content_step _ _ _ c.loop-i-test.true c.char_in-c.ensures).least)

pub loop-i-preserved : goal.loop-i-preserved
loop-i-preserved c = other_next c.loop-i.invariant _ c.loop-i-test.true c.char_in-c.ensures c.if-c-eq46.false

pub returns : goal.returns
returns c = pointed_end c.loop-i.invariant c.loop-i-test.false
