use Rattle.step_lines.proofs.Lines.{unnamed_put}
use Rattle.step_lines.proofs.unnamed_section_line.Goals as goal

pub returns : goal.returns
returns c = unnamed_put c.put_bytes.ensures
