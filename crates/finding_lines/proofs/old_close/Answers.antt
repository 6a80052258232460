use Rattle.finding_lines.specs.Lines.{old_close}
use Rattle.finding_lines.proofs.old_close.Goals as goal

pub returns : goal.returns
unfolding old_close
returns c = c.put_bytes.ensures
