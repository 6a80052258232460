use Rattle.stored_cases.proofs.Named.{bytes_there, bytes_absent}
use Rattle.stored_cases.proofs.bytes_named.Goals as goal

pub returns-in-Some : goal.returns-in-Some
returns-in-Some c = bytes_there _ _ _ c.part_named.ensures c.in-Some.is c.part.ensures

pub returns-in-None : goal.returns-in-None
returns-in-None c = bytes_absent _ _ _ c.part_named.ensures c.in-None.is
