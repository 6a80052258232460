use Rattle.step_lines.proofs.Lines.{section_put}
use Rattle.step_lines.proofs.section_line.Goals as goal

pub returns : goal.returns
returns c = section_put _ c.put_bytes-a.ensures c.put_optional-b.ensures c.put_byte.ensures
