use Rattle.output.proofs.Texts.{put_refused}
use Rattle.output.proofs.write_refusal.Goals as goal

pub returns : goal.returns
returns c = put_refused _ _ c.put_bytes-a.ensures c.put_number-b.ensures c.put_number-c.ensures c.put_byte.ensures
