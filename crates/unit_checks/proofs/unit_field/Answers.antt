use Rattle.unit_checks.proofs.Fitting.{field_none, field_absent, field_there}
use Rattle.unit_checks.proofs.unit_field.Goals as goal

pub returns-in-None : goal.returns-in-None
returns-in-None c = field_none c.in-None.is

pub returns-in-None-u : goal.returns-in-None-u
returns-in-None-u c = field_absent c.in-Some.is c.in-None-u.is

pub returns-in-Some-u : goal.returns-in-Some-u
returns-in-Some-u c = field_there c.in-Some.is c.in-Some-u.is c.part_of.ensures
