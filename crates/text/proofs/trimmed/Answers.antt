use Rattle.text.proofs.Trims.{trimmed_both}
use Rattle.text.proofs.trimmed.Goals as goal

pub returns : goal.returns
returns c = trimmed_both _ c.start_of-a.ensures c.trimmed_end.ensures
