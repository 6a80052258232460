use native.Mathlib.Omega.{arith}
use Rattle.content.specs.Contents.{kept_in}
use Rattle.content.proofs.Compare.{comparing, same_reading, kept_step, compare_on, compare_differ, compare_longer, compare_end, kept_ending}
use Rattle.content.proofs.same_parts.Goals as goal

pub returns-then-same_bytes : goal.returns-then-same_bytes
returns-then-same_bytes c = same_reading kept_in _ _ c.same_bytes.ensures c.if-same_bytes.true

pub loop-i-init : goal.loop-i-init
loop-i-init c = comparing

pub returns-then-g-j : goal.returns-then-g-j
returns-then-g-j c = compare_longer c.loop-i.invariant (kept_ending _ _) (kept_ending _ _) c.loop-i-test.true c.if-g-j.true

pub returns-then-a-b : goal.returns-then-a-b
returns-then-a-b c = compare_differ c.loop-i.invariant (kept_step c.kept_char-a.ensures) (kept_step c.kept_char-b.ensures) c.if-a-b.true

pub overflow_add-i : goal.overflow_add-i
overflow_add-i c = omega (arith, c.kept_char-a.ensures.most)

pub overflow_add-j : goal.overflow_add-j
overflow_add-j c = omega (arith, c.kept_char-b.ensures.most)

pub loop-i-smaller : goal.loop-i-smaller
loop-i-smaller c =
    let k = kept_step c.kept_char-a.ensures in
    omega (arith, k.most, k.least)

pub loop-i-preserved : goal.loop-i-preserved
loop-i-preserved c = compare_on c.loop-i.invariant (kept_step c.kept_char-a.ensures) (kept_step c.kept_char-b.ensures) c.if-a-b.false

pub returns : goal.returns
returns c = compare_end c.loop-i.invariant (kept_ending _ _) (kept_ending _ _) c.loop-i-test.false
