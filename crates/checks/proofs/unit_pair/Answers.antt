use Rattle.checks.proofs.Laws.{unit_within, units_none, units_alone, units_fit, units_differ}
use Rattle.checks.proofs.unit_pair.Goals as goal

pub compatible_unit-requires : goal.compatible_unit-requires
compatible_unit-requires c = (unit_within _ _ _ c.requires.1 c.in_ok-y.was, unit_within _ _ _ c.requires.0 c.in_ok-x.was)

pub returns-in_err-x : goal.returns-in_err-x
returns-in_err-x c = rw c.from_residual.ensures (units_none _ _ _ c.in_err-x.was)

pub returns-in_err-y : goal.returns-in_err-y
returns-in_err-y c = rw c.from_residual-in_err-y.ensures (units_alone _ _ _ _ c.in_ok-x.was c.in_err-y.was)

pub returns-in_err-code : goal.returns-in_err-code
returns-in_err-code c = rw c.from_residual-in_err-code.ensures (units_fit _ _ _ _ _ c.in_ok-x.was c.in_ok-y.was c.compatible_unit.ensures c.in_err-code.was)

pub returns : goal.returns
returns c = units_differ _ _ _ _ _ c.in_ok-x.was c.in_ok-y.was c.compatible_unit.ensures _ c.in_ok-code.was c.unit_place-p.ensures c.unit_place-q.ensures c.two_spans.ensures
