use Rattle.intermediate.proofs.Laws.{fault_ref, fault_negative, fault_absent, fault_none}
use Rattle.intermediate.proofs.check_intermediate.Goals as goal

pub returns-then-not-reference : goal.returns-then-not-reference
returns-then-not-reference c = fault_ref _ c.in-Some.is c.if-not-reference.true-raw

pub returns-then-v : goal.returns-then-v
returns-then-v c = fault_negative _ c.in-Some.is c.if-not-reference.false-raw c.if-v.true

pub returns-in-None : goal.returns-in-None
returns-in-None c = fault_absent c.in-None.is

pub returns-else-v : goal.returns-else-v
returns-else-v c = fault_none _ c.in-Some.is c.if-not-reference.false-raw c.if-v.false
