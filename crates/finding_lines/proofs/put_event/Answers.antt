use Rattle.finding_lines.proofs.Parsers.{event_between, event_inside, event_finding}
use Rattle.finding_lines.proofs.put_event.Goals as goal

pub returns-in-Between : goal.returns-in-Between
returns-in-Between c = event_between c.in-Between.is c.begin.ensures

pub returns-in-Inside : goal.returns-in-Inside
returns-in-Inside c = event_inside c.in-Inside.is c.begin-in-Inside.ensures

pub returns-in-Finding : goal.returns-in-Finding
returns-in-Finding c = event_finding c.in-Finding.is c.is_severe.ensures c.put_parsed.ensures
