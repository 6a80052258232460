use native.Mathlib.Omega.{arith}
use Rattle.content.proofs.Chars.{content_step}
use Rattle.text.proofs.Trims.{seeking, seek_end, seek_found, seek_on}
use Rattle.text.proofs.has_alphanumeric.Goals as goal

pub loop-at-init : goal.loop-at-init
loop-at-init c = seeking _ _

pub returns-then-is_alphanumeric : goal.returns-then-is_alphanumeric
returns-then-is_alphanumeric c = seek_found _ c.loop-at.invariant _ c.loop-at-test.true c.char_in-c.ensures c.is_alphanumeric.ensures c.if-is_alphanumeric.true

pub overflow_add-at : goal.overflow_add-at
overflow_add-at c = omega (arith, (content_step _ _ _ c.loop-at-test.true c.char_in-c.ensures).most)

pub loop-at-smaller : goal.loop-at-smaller
loop-at-smaller c =
    let k = content_step _ _ _ c.loop-at-test.true c.char_in-c.ensures in
    omega (arith, k.most, k.least)

pub loop-at-preserved : goal.loop-at-preserved
loop-at-preserved c = seek_on _ c.loop-at.invariant _ c.loop-at-test.true c.char_in-c.ensures c.is_alphanumeric.ensures c.if-is_alphanumeric.false

pub returns : goal.returns
returns c = seek_end _ c.loop-at.invariant c.loop-at-test.false
