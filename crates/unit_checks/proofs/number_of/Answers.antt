use Rattle.unit_checks.proofs.Fitting.{number_read, number_none}
use Rattle.unit_checks.proofs.number_of.Goals as goal

pub returns-then-has_unit : goal.returns-then-has_unit
returns-then-has_unit c = number_read c.has_unit.ensures c.if-has_unit.true c.unit_code.ensures

pub returns : goal.returns
returns c = number_none c.has_unit.ensures c.if-has_unit.false
