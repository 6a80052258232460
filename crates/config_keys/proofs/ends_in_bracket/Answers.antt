use native.Mathlib.Omega.{arith}
use Rattle.content.proofs.Chars.{content_step}
use Rattle.config_keys.proofs.Keys.{passing, pass_on, pass_end}
use Rattle.config_keys.proofs.ends_in_bracket.Goals as goal

pub loop-i-init : goal.loop-i-init
loop-i-init c = passing _ _

pub overflow_add-i : goal.overflow_add-i
overflow_add-i c = omega (arith, (content_step _ _ _ c.loop-i-test.true c.char_in-c.ensures).most)

pub loop-i-smaller : goal.loop-i-smaller
loop-i-smaller c = let k = content_step _ _ _ c.loop-i-test.true c.char_in-c.ensures in omega (arith, k.most, k.least)

pub loop-i-preserved : goal.loop-i-preserved
loop-i-preserved c = pass_on c.loop-i.invariant _ c.loop-i-test.true c.char_in-c.ensures

pub returns : goal.returns
returns c = pass_end c.loop-i.invariant c.loop-i-test.false
