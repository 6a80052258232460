use native.Mathlib.Omega.{arith}
use mathlib.Core.Path.{sym}
use Rattle.stored_cases.proofs.Parts.{part_inside}
use Rattle.stored_cases.proofs.Named.{walk_starts, none_named, part_found, part_passed}
use Rattle.stored_cases.proofs.part_named.Goals as goal

pub loop-p-init : goal.loop-p-init
loop-p-init c = walk_starts _ _ _

pub returns-then-same_bytes : goal.returns-then-same_bytes
returns-then-same_bytes c = part_found _ _ _ c.loop-p.invariant c.in-Some.ensures c.part.ensures c.same_bytes.ensures c.if-same_bytes.true

pub overflow_add-at : goal.overflow_add-at
overflow_add-at c = let k = part_inside _ _ (sym c.in-Some.ensures) in omega (arith, k.1)

pub loop-p-smaller : goal.loop-p-smaller
loop-p-smaller c = let k = part_inside _ _ (sym c.in-Some.ensures) in omega (arith, k.0, k.1)

pub loop-p-preserved : goal.loop-p-preserved
loop-p-preserved c = part_passed _ _ _ c.loop-p.invariant c.in-Some.ensures c.part.ensures c.same_bytes.ensures c.if-same_bytes.false

pub returns : goal.returns
returns c = none_named _ _ _ c.loop-p.invariant c.in_default.ensures
