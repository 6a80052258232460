use Rattle.utf8.proofs.Firsts.{part_rest}
use Rattle.utf8.proofs.decode.Goals as goal

pub returns : goal.returns
returns c = simp part_rest at c.first.ensures
