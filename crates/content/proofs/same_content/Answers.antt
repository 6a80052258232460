use mathlib.Core.Path.{refl}
use Rattle.content.proofs.Compare.{comparing, kept_step, chars_step, plain_kept, plain_chars, plain_on, compare_on, compare_differ, compare_longer, compare_end, kept_ending, chars_ending}
use Rattle.content.proofs.same_content.Goals as goal

pub loop-i-init : goal.loop-i-init
loop-i-init c = comparing

pub returns-then-w-j : goal.returns-then-w-j
returns-then-w-j c = compare_longer c.loop-i.invariant (kept_ending _ _) (chars_ending _ _) c.loop-i-test.true c.if-w-j.true

pub loop-i-preserved-then-same_plain : goal.loop-i-preserved-then-same_plain
loop-i-preserved-then-same_plain c = plain_on c.loop-i.invariant c.same_plain.ensures c.if-same_plain.true (plain_kept c.loop-i-test.true refl) (plain_chars c.if-w-j.false refl)

pub returns-then-a-b : goal.returns-then-a-b
returns-then-a-b c = compare_differ c.loop-i.invariant (kept_step c.kept_char-a.ensures) (chars_step c.if-w-j.false c.char_at-b.ensures) c.if-a-b.true

pub loop-i-preserved : goal.loop-i-preserved
loop-i-preserved c = compare_on c.loop-i.invariant (kept_step c.kept_char-a.ensures) (chars_step c.if-w-j.false c.char_at-b.ensures) c.if-a-b.false

pub returns : goal.returns
returns c = compare_end c.loop-i.invariant (kept_ending _ _) (chars_ending _ _) c.loop-i-test.false
