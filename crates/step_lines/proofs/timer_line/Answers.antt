use Rattle.step_lines.proofs.Lines.{timer_put}
use Rattle.step_lines.proofs.timer_line.Goals as goal

pub returns : goal.returns
returns c = timer_put _ _ _ c.put_bytes-a.ensures c.put_number-b.ensures c.put_optional-c.ensures c.put_amount-d.ensures c.put_byte.ensures
