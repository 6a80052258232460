use Rattle.output.proofs.Puts.{put_seq}
use Rattle.output.proofs.Texts.{text_is, tabbed_number}
use Rattle.output.proofs.put_number.Goals as goal

pub returns : goal.returns
returns c = text_is _ (tabbed_number _) (put_seq c.put_byte-m.ensures c.put_decimal.ensures)
