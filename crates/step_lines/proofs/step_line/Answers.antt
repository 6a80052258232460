use Rattle.step_lines.proofs.Lines.{step_put}
use Rattle.step_lines.proofs.step_line.Goals as goal

pub returns : goal.returns
returns c = step_put _ c.put_bytes-a.ensures c.put_number-b.ensures c.put_byte.ensures
