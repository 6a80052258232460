use native.Mathlib.Omega.{arith}
use Prim.Native.Nat.{◌-◌}
use mathlib.Core.Path.{◌∙◌}
use mathlib.Core.Logic.{⊎_elim}
use Rattle.utf8.proofs.Runs.{run_none, run_hit, run_miss, run_whole}
use Rattle.utf8.proofs.are_ascii.Goals.{then-s-at-ge128, else-s-at-ge128}
use Rattle.utf8.proofs.are_ascii.Goals as goal

pub loop-j-init : goal.loop-j-init
loop-j-init c = (omega arith, run_none _ _)

pub loop-j-preserved : goal.loop-j-preserved
loop-j-preserved c =
    let loop = c.loop-j in
    (omega arith, elim c.if-s-at-ge128.branch [ then-s-at-ge128 w ↦ w.all-is ∙ run_hit _ _ _ w.if-s-at-ge128.true | else-s-at-ge128 w ↦ w.all-is ∙ run_miss _ _ _ loop.invariant.1 w.if-s-at-ge128.false ])

pub returns : goal.returns
returns c = run_whole _ _ _ c.loop-j.invariant.1 c.loop-j-test.false c.loop-j.invariant.0
