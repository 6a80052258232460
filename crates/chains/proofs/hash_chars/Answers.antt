use mathlib.Core.Path.{refl}
use Rattle.content.proofs.Compare.{chars_step, ascii_chars, chars_ending}
use Rattle.chains.proofs.Hashing.{hash_starts, hash_on, hash_ends}
use Rattle.chains.proofs.hash_chars.Goals as goal

pub loop-i-init : goal.loop-i-init
loop-i-init c = hash_starts _ _

pub loop-i-preserved-then-a-lt128 : goal.loop-i-preserved-then-a-lt128
loop-i-preserved-then-a-lt128 c = hash_on c.loop-i.invariant (ascii_chars c.loop-i-test.true refl c.if-a-lt128.true) c.mixed-h.ensures.0 c.mixed-h.ensures.1

pub loop-i-preserved : goal.loop-i-preserved
loop-i-preserved c = hash_on c.loop-i.invariant (chars_step c.loop-i-test.true c.char_at-c.ensures) c.mixed-h-else-a-lt128.ensures.0 c.mixed-h-else-a-lt128.ensures.1

pub returns : goal.returns
returns c = hash_ends c.loop-i.invariant (chars_ending _ _) c.loop-i-test.false
