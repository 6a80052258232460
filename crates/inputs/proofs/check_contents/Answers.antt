use Rattle.inputs.proofs.Checks.{text_fault, units_checked, refused_ready, units_ready}
use Rattle.inputs.proofs.check_contents.Goals as goal

pub returns-in-Some : goal.returns-in-Some
returns-in-Some c = (text_fault c.first_fault.ensures c.in-Some.is, refused_ready c.told-index)

pub returns : goal.returns
returns c = (units_checked c.first_fault.ensures c.in_default.is c.index_units.ensures, units_ready c.index_units.ensures)
