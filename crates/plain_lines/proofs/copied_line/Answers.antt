use Rattle.output.proofs.Puts.{put_seq}
use Rattle.plain_lines.proofs.copied_line.Goals as goal

pub returns : goal.returns
returns c = put_seq c.put_bytes-a.ensures c.put_byte.ensures
