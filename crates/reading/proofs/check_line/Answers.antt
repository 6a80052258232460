use Rattle.reading.proofs.Sheets.{line_ill, line_late, line_good, line_bad}
use Rattle.reading.proofs.check_line.Goals as goal

pub returns-in_default : goal.returns-in_default
returns-in_default c = line_ill (rw c.in_default.is at c.event_at.ensures)

pub returns-then-number-gt4096 : goal.returns-then-number-gt4096
returns-then-number-gt4096 c = line_late c.in-Some.ensures c.if-number-gt4096.true

pub returns-then-spans_good : goal.returns-then-spans_good
returns-then-spans_good c = line_good c.in-Some.ensures c.if-number-gt4096.false (c.spans_good.ensures _) c.if-spans_good.true

pub returns : goal.returns
returns c = line_bad c.in-Some.ensures c.if-number-gt4096.false (c.spans_good.ensures _) c.if-spans_good.false
