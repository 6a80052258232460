use native.Mathlib.Omega.{arith}
use Rattle.content.proofs.Chars.{content_step}
use Rattle.content.proofs.Paths.{separating, parts_here, parts_not, separated}
use Rattle.content.proofs.last_separator.Goals as goal

pub loop-at-init : goal.loop-at-init
loop-at-init c = separating _

pub overflow_add-next : goal.overflow_add-next
overflow_add-next c = omega (arith, (content_step _ _ _ c.loop-at-test.true c.char_in-c.ensures).most)

pub loop-at-smaller-then-is_separator : goal.loop-at-smaller-then-is_separator
loop-at-smaller-then-is_separator c =
    let k = content_step _ _ _ c.loop-at-test.true c.char_in-c.ensures in
    omega (arith, k.most, k.least)

pub loop-at-preserved-then-is_separator : goal.loop-at-preserved-then-is_separator
loop-at-preserved-then-is_separator c = parts_here c.loop-at.invariant _ c.loop-at-test.true c.char_in-c.ensures c.is_separator.ensures c.if-is_separator.true

pub loop-at-smaller : goal.loop-at-smaller
loop-at-smaller c =
    let k = content_step _ _ _ c.loop-at-test.true c.char_in-c.ensures in
    omega (arith, k.most, k.least)

pub loop-at-preserved : goal.loop-at-preserved
loop-at-preserved c = parts_not c.loop-at.invariant _ c.loop-at-test.true c.char_in-c.ensures c.is_separator.ensures c.if-is_separator.false

pub returns : goal.returns
returns c = separated c.loop-at.invariant c.loop-at-test.false
