use native.Mathlib.Omega.{arith}
use Rattle.component_records.proofs.Counts.{own_one, own_none, own_start, own_turn, own_end}
use Rattle.component_records.proofs.own_references.Goals as goal
use Rattle.component_records.proofs.own_references.Goals.{then-is_own_reference, else-is_own_reference}

pub loop-i-init : goal.loop-i-init
loop-i-init c = own_start _ _

pub overflow_add-n : goal.overflow_add-n
overflow_add-n c = omega (arith, c.loop-i.invariant.few)

pub loop-i-preserved : goal.loop-i-preserved
loop-i-preserved c =
    own_turn c.loop-i.invariant c.loop-i-test.true c.component_at-c.ensures (elim c.if-is_own_reference.branch [
      | then-is_own_reference w ↦ omega (arith, w.n-is, own_one c.component_at-c.result c.is_own_reference.ensures w.if-is_own_reference.true)
      | else-is_own_reference w ↦ omega (arith, w.n-is, own_none c.component_at-c.result c.is_own_reference.ensures w.if-is_own_reference.false)
    ])

pub returns : goal.returns
returns c = own_end c.loop-i.invariant c.loop-i.auto.i-end c.loop-i-test.false
