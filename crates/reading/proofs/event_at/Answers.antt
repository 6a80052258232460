use Rattle.reading.proofs.Lines.{line_valid, line_fault}
use Rattle.reading.proofs.event_at.Goals as goal

pub returns-in-None : goal.returns-in-None
returns-in-None c = line_valid c.in-None.ensures c.event_in.ensures

pub returns-in-Some : goal.returns-in-Some
returns-in-Some c = line_fault c.in-Some.ensures
