use mathlib.Core.Path.{refl}
use Rattle.sheet.proofs.Tests.{eq_length, eq_same, eq_other, eq_end}
use Rattle.sheet.proofs.same_bytes.Goals as goal

pub returns-then-a-b : goal.returns-then-a-b
returns-then-a-b c = eq_length _ _ c.if-a-b.true

pub loop-i-init : goal.loop-i-init
loop-i-init c = refl

pub returns-then-a-i : goal.returns-then-a-i
returns-then-a-i c = eq_other _ _ _ c.if-a-b.false c.loop-i.invariant c.loop-i-test.true c.if-a-i.true

pub loop-i-preserved : goal.loop-i-preserved
loop-i-preserved c = eq_same _ _ _ c.if-a-b.false c.loop-i.invariant c.loop-i-test.true c.if-a-i.false

pub returns : goal.returns
returns c = eq_end _ _ _ c.if-a-b.false c.loop-i.invariant c.loop-i-test.false
