use Rattle.unit_checks.proofs.Fitting.{has_none, has_no, has_yes}
use Rattle.unit_checks.proofs.has_unit.Goals as goal

pub returns-in-None : goal.returns-in-None
returns-in-None c = has_none c.in-None.is

pub returns-in-None-u : goal.returns-in-None-u
returns-in-None-u c = has_no c.in-Some.is c.in-None-u.is

pub returns-in-Some-u : goal.returns-in-Some-u
returns-in-Some-u c = has_yes c.in-Some.is c.in-Some-u.is
