use Rattle.plain_lines.proofs.Lines.{start_put}
use Rattle.plain_lines.proofs.start_text_line.Goals as goal

pub returns : goal.returns
returns c = start_put c.put_bytes.ensures
