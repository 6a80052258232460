use Rattle.checks.proofs.Laws.{quantity_none, quantity_alone, quantity_both}
use Rattle.checks.proofs.quantity_check.Goals as goal

pub returns-in_default-clause-done : goal.returns-in_default-clause-done
returns-in_default-clause-done c = quantity_none c.in_default.is

pub returns-in_default-b-clause-done : goal.returns-in_default-b-clause-done
returns-in_default-b-clause-done c = quantity_alone _ c.in-Some.is c.in_default-b.is

pub returns-in-Some-b-clause-done : goal.returns-in-Some-b-clause-done
returns-in-Some-b-clause-done c = quantity_both _ _ c.in-Some.is c.in-Some-b.is c.pair_check.ensures.done
