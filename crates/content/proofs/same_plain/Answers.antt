use Rattle.content.specs.Readings.{same_plain}
use Rattle.content.proofs.same_plain.Goals as goal

pub returns : goal.returns
unfolding same_plain
returns c = rw c.is_plain.ensures
