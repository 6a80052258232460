use Rattle.units.proofs.Parts.{line_utf8, line_fault}
use Rattle.units.proofs.is_unit.Goals as goal

pub returns-in-None : goal.returns-in-None
returns-in-None c = line_utf8 _ c.first_fault.ensures c.in-None.is c.has_unit_fields.ensures

pub returns-in-Some : goal.returns-in-Some
returns-in-Some c = line_fault _ c.first_fault.ensures c.in-Some.is
