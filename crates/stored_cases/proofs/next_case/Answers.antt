use native.Mathlib.Omega.{arith}
use mathlib.Core.Path.{sym}
use Rattle.stored_cases.proofs.Parts.{part_inside}
use Rattle.stored_cases.proofs.Named.{next_starts, next_here, next_on}
use Rattle.stored_cases.proofs.next_case.Goals as goal

pub loop-p-init : goal.loop-p-init
loop-p-init c = next_starts _ _

pub overflow_add-at : goal.overflow_add-at
overflow_add-at c = let k = part_inside _ _ (sym c.in-Some.ensures) in omega (arith, k.1)

pub loop-p-smaller : goal.loop-p-smaller
loop-p-smaller c = let k = part_inside _ _ (sym c.in-Some.ensures) in omega (arith, k.0, k.1)

pub loop-p-preserved : goal.loop-p-preserved
loop-p-preserved c = next_on _ _ c.loop-p.invariant c.in-Some.ensures

pub returns : goal.returns
returns c = next_here _ _ c.loop-p.invariant c.in_default.ensures
