use Rattle.reading.proofs.Lines.{ended_ill, ended_more, ended_got}
use Rattle.reading.proofs.ended.Goals as goal

pub returns-in_err-v : goal.returns-in_err-v
returns-in_err-v c = rw c.from_residual.ensures (ended_ill _ c.in_err-v.was)

pub returns-then-m-line : goal.returns-then-m-line
returns-then-m-line c = ended_more _ c.in_ok-v.was c.if-m-line.true

pub returns : goal.returns
returns c = ended_got _ c.in_ok-v.was c.if-m-line.false
