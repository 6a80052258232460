use Rattle.step_lines.proofs.Lines.{inline_put}
use Rattle.step_lines.proofs.inline_line.Goals as goal

pub returns : goal.returns
returns c = inline_put _ c.requires.0 c.requires.1 c.put_bytes-a.ensures c.put_number-b.ensures c.put_byte-c.ensures c.put_bytes-d.ensures c.put_bytes-e.ensures c.put_bytes-f.ensures c.put_byte.ensures
