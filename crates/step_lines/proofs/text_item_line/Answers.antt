use Rattle.step_lines.proofs.Lines.{text_item_put}
use Rattle.step_lines.proofs.text_item_line.Goals as goal

pub returns : goal.returns
returns c = text_item_put c.requires c.put_bytes-a.ensures c.put_bytes-b.ensures c.put_byte.ensures
