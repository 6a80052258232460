use native.Mathlib.Omega.{arith}
use mathlib.Core.Path.{refl}
use Rattle.content.proofs.Kept.{skip_more, skip_whole, skip_other}
use Rattle.content.proofs.skip_blanks.Goals as goal

pub loop-i-init : goal.loop-i-init
loop-i-init c = record { least = omega arith; most = c.requires; is = refl }

pub returns-then-f-i-ne32 : goal.returns-then-f-i-ne32
returns-then-f-i-ne32 c = skip_other c.loop-i.invariant c.loop-i-test.true c.if-f-i-ne32.true

pub loop-i-preserved : goal.loop-i-preserved
loop-i-preserved c = skip_more c.loop-i.invariant c.loop-i-test.true c.if-f-i-ne32.false

pub returns : goal.returns
returns c = skip_whole c.loop-i.invariant c.loop-i-test.false
