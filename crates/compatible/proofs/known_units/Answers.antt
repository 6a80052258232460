use Rattle.compatible.proofs.Laws.{units_same, units_first, units_second, units_fit, units_differ, told_none, told_some}
use native.Mathlib.Omega.{arith}
use Rattle.compatible.proofs.known_units.Goals as goal

pub returns-then-same_parts : goal.returns-then-same_parts
returns-then-same_parts c = told_none (units_same _ _ _ c.same_parts.ensures c.if-same_parts.true)

pub returns-then-m-eq5 : goal.returns-then-m-eq5
returns-then-m-eq5 c = told_some (λ z. omega arith) (units_first _ _ _ c.same_parts.ensures c.unit_code-m.ensures c.if-same_parts.false c.if-m-eq5.true)

pub returns-then-n-eq5 : goal.returns-then-n-eq5
returns-then-n-eq5 c = told_some (λ z. omega arith) (units_second _ _ _ c.same_parts.ensures c.unit_code-n.ensures c.if-same_parts.false c.if-n-eq5.true)

pub returns-then-m-n : goal.returns-then-m-n
returns-then-m-n c = told_none (units_fit _ _ _ c.unit_code-m.ensures c.unit_code-n.ensures c.if-m-eq5.false c.if-m-n.true)

pub returns : goal.returns
returns c = told_some (λ z. omega arith) (units_differ _ _ _ c.unit_code-m.ensures c.unit_code-n.ensures c.if-m-eq5.false c.if-n-eq5.false c.if-m-n.false)
