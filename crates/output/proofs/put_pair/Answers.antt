use Rattle.output.proofs.Puts.{put_seq}
use Rattle.output.proofs.put_pair.Goals as goal

pub returns : goal.returns
returns c = put_seq c.put_byte-n.ensures c.put_byte.ensures
