use Rattle.output.proofs.Puts.{put_seq}
use Rattle.output.proofs.Texts.{text_is, tabbed_one}
use Rattle.output.proofs.put_field.Goals as goal

pub returns : goal.returns
returns c = text_is _ (tabbed_one _) (put_seq c.put_byte-n.ensures c.put_each_escaped.ensures)
