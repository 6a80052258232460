use Rattle.text.proofs.Trims.{trimmed_white}
use Rattle.text.proofs.text_outer_trimmed.Goals as goal

pub returns : goal.returns
returns c = trimmed_white c.trimmed.ensures
