use native.Mathlib.Omega.{arith}
use mathlib.Core.Path.{refl, ◌∙◌}
use Rattle.recall.proofs.Tabs.{all_past, pass_eight}
use Rattle.recall.proofs.after_tabs.Goals as goal

pub returns-then-line-at : goal.returns-then-line-at
returns-then-line-at c = all_past _ _ c.args.n c.if-line-at.true

pub loop-i-init : goal.loop-i-init
loop-i-init c = (c.if-line-at.false, refl)

pub returns-then-left-tabs : goal.returns-then-left-tabs
returns-then-left-tabs c = c.after_near_tabs.ensures ∙ c.loop-i.invariant.1

pub loop-i-preserved : goal.loop-i-preserved
loop-i-preserved c = (omega arith, pass_eight _ _ _ c.loop-i.invariant.1 c.tabs_in_eight-tabs.ensures (omega arith) c.if-left-tabs.false)

pub returns : goal.returns
returns c = c.after_near_tabs-2.ensures ∙ c.loop-i.invariant.1
