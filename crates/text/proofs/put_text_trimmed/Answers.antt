use Rattle.text.proofs.Writes.{put_trimmed}
use Rattle.text.proofs.put_text_trimmed.Goals as goal

pub returns : goal.returns
returns c = put_trimmed c.text_outer_trimmed-w.ensures c.put_kept.ensures
