use native.Mathlib.Omega.{arith}
use mathlib.Core.Path.{refl, sym, ◌∙◌}
use Rattle.content.proofs.Kept.{wide_in}
use Rattle.chains.proofs.Hashing.{hash_starts, hash_on, hash_ends}
use Rattle.content.proofs.Compare.{plain_low, content_on, plain_content, content_ending}
use Rattle.chains.proofs.hash_content.Goals as goal

pub loop-i-init : goal.loop-i-init
loop-i-init c = hash_starts _ _

pub overflow_cast-a : goal.overflow_cast-a
overflow_cast-a c = record { fits = omega (arith, plain_low _ c.is_plain.ensures c.if-is_plain.true) }

pub loop-i-preserved-then-is_plain : goal.loop-i-preserved-then-is_plain
loop-i-preserved-then-is_plain c = hash_on c.loop-i.invariant (plain_content c.loop-i-test.true refl (sym c.is_plain.ensures ∙ c.if-is_plain.true)) c.mixed-h.ensures.0 c.mixed-h.ensures.1

pub loop-i-preserved-then-a-ge128 : goal.loop-i-preserved-then-a-ge128
loop-i-preserved-then-a-ge128 c = hash_on c.loop-i.invariant (content_on c.loop-i-test.true (wide_in _ _ c.loop-i-test.true c.if-a-ge128.true c.char_near-c.ensures)) c.mixed-h-then-a-ge128.ensures.0 c.mixed-h-then-a-ge128.ensures.1

pub loop-i-preserved : goal.loop-i-preserved
loop-i-preserved c = hash_on c.loop-i.invariant (content_on c.loop-i-test.true c.char_in-c.ensures) c.mixed-h-else-a-ge128.ensures.0 c.mixed-h-else-a-ge128.ensures.1

pub returns : goal.returns
returns c = hash_ends c.loop-i.invariant (content_ending _ _) c.loop-i-test.false
