use Rattle.finding_lines.specs.Lines.{old_open}
use Rattle.finding_lines.proofs.old_open.Goals as goal

pub returns : goal.returns
unfolding old_open
returns c = c.put_bytes.ensures
