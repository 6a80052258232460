use native.Mathlib.Omega.{arith}
use mathlib.Core.Path.{refl, sym, ◌∙◌}
use Rattle.content.proofs.Compare.{plain_low, kept_step, plain_kept, kept_ending}
use Rattle.chains.proofs.Hashing.{hash_starts, hash_on, hash_ends}
use Rattle.chains.proofs.hash_kept.Goals as goal

pub loop-i-init : goal.loop-i-init
loop-i-init c = hash_starts _ _

pub overflow_cast-a : goal.overflow_cast-a
overflow_cast-a c = record { fits = omega (arith, plain_low _ c.is_plain.ensures c.if-is_plain.true) }

pub loop-i-preserved-then-is_plain : goal.loop-i-preserved-then-is_plain
loop-i-preserved-then-is_plain c = hash_on c.loop-i.invariant (plain_kept c.loop-i-test.true refl (sym c.is_plain.ensures ∙ c.if-is_plain.true)) c.mixed-h.ensures.0 c.mixed-h.ensures.1

pub loop-i-preserved : goal.loop-i-preserved
loop-i-preserved c = hash_on c.loop-i.invariant (kept_step c.kept_char-c.ensures) c.mixed-h-else-is_plain.ensures.0 c.mixed-h-else-is_plain.ensures.1

pub returns : goal.returns
returns c = hash_ends c.loop-i.invariant (kept_ending _ _) c.loop-i-test.false
