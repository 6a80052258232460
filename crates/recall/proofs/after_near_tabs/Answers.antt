use mathlib.Core.Path.{refl}
use Rattle.recall.proofs.Tabs.{turn_tab, turn_other, too_few, none_left}
use Rattle.recall.proofs.after_near_tabs.Goals.{then-line-i-eq9, else-line-i-eq9}
use Rattle.recall.proofs.after_near_tabs.Goals as goal

pub loop-left-init : goal.loop-left-init
loop-left-init c = refl

pub returns-then-line-i : goal.returns-then-line-i
returns-then-line-i c = too_few _ _ _ c.if-line-i.true c.loop-left-test.true c.loop-left.invariant

pub loop-left-preserved : goal.loop-left-preserved
loop-left-preserved c =
    elim c.if-line-i-eq9.branch [ then-line-i-eq9 w ↦ turn_tab _ _ c.if-line-i.false _ c.loop-left-test.true w.if-line-i-eq9.true c.loop-left.invariant w.left-is | else-line-i-eq9 w ↦ turn_other _ _ c.if-line-i.false _ c.loop-left-test.true w.if-line-i-eq9.false c.loop-left.invariant w.left-is ]

pub returns : goal.returns
returns c = none_left _ _ _ c.loop-left-test.false c.loop-left.invariant
