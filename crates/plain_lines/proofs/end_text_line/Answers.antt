use Rattle.plain_lines.proofs.Lines.{end_put}
use Rattle.plain_lines.proofs.end_text_line.Goals as goal

pub returns : goal.returns
returns c = end_put c.put_bytes.ensures
