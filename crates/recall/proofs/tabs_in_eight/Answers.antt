use native.Mathlib.Omega.{arith}
use Prim.Native.Nat.{◌<◌}
use mathlib.Core.Path.{sym, ◌∙◌}
use Rattle.recall.proofs.Tabs.{tabs_none, tabs_few, tabs_hit, tabs_miss, tabs_whole, eight_long, eight_byte}
use Rattle.recall.proofs.tabs_in_eight.Goals.{then-c-eq9, else-c-eq9}
use Rattle.recall.proofs.tabs_in_eight.Goals as goal

pub loop-c-init : goal.loop-c-init
loop-c-init c = (omega arith, tabs_none _ _)

pub overflow_add-n : goal.overflow_add-n
overflow_add-n c = omega (arith, tabs_few _ _ _ c.loop-c.invariant.1, c.loop-c.invariant.0)

pub loop-c-preserved : goal.loop-c-preserved
loop-c-preserved c =
    let loop = c.loop-c in
    let line = c.args.line.now in
    let l : loop.c-index < 8 = omega (arith, c.loop-c-test.true, eight_long line c.args.at c.requires) in
    let b = eight_byte line c.args.at l in
    (omega arith, elim c.if-c-eq9.branch [ then-c-eq9 w ↦ w.n-is ∙ tabs_hit _ _ _ loop.invariant.1 (sym b ∙ w.if-c-eq9.true) | else-c-eq9 w ↦ w.n-is ∙ tabs_miss _ _ _ loop.invariant.1 (λ q. w.if-c-eq9.false (b ∙ q)) ])

pub returns : goal.returns
returns c = tabs_whole _ _ _ c.loop-c.invariant.1 (omega (arith, c.loop-c-test.false, eight_long c.args.line.now c.args.at c.requires)) c.loop-c.invariant.0
