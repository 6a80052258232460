use native.Mathlib.Omega.{arith}
use Rattle.content.proofs.Chars.{content_step}
use Rattle.stream.proofs.count.Goals as goal

pub overflow_add-at : goal.overflow_add-at
overflow_add-at c = omega (arith, (content_step _ _ _ c.loop-at-test.true c.char_in-c.ensures).most)

pub loop-at-smaller : goal.loop-at-smaller
loop-at-smaller c = omega (arith, (content_step _ _ _ c.loop-at-test.true c.char_in-c.ensures).least)

pub loop-at-preserved : goal.loop-at-preserved
loop-at-preserved c =
    let d = content_step _ _ _ c.loop-at-test.true c.char_in-c.ensures in
    let l = d.least in
    let m = d.most in
    let i = c.loop-at.invariant in
    (omega arith, omega (arith, c.one-white.ensures), omega (arith, c.one-alphabetic.ensures), omega (arith, c.one-alphanumeric.ensures), omega arith)
