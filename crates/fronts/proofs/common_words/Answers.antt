use native.Mathlib.Omega.{arith}
use Prim.Native.Nat.{◌-◌}
use Rattle.fronts.proofs.Seams.{common_none, common_four}
use Rattle.fronts.proofs.common_words.Goals as goal

pub loop-i-init : goal.loop-i-init
loop-i-init c = common_none

pub word-requires : goal.word-requires
word-requires c = omega (arith, c.words_in-n.ensures.1 _ c.loop-i-test.true, c.min.ensures)

pub word-requires-in-loop-i : goal.word-requires-in-loop-i
word-requires-in-loop-i c = omega (arith, c.words_in-n.ensures.1 _ c.loop-i-test.true, c.min.ensures)

pub loop-i-preserved : goal.loop-i-preserved
loop-i-preserved c = common_four c.loop-i.invariant (omega (arith, c.words_in-n.ensures.1 _ c.loop-i-test.true, c.min.ensures)) (omega (arith, c.words_in-n.ensures.1 _ c.loop-i-test.true, c.min.ensures)) c.word.ensures c.word-in-loop-i.ensures c.if-word.false
