use Rattle.model.specs.Memory.{windows_of}
use Rattle.memory.proofs.Stored.finding.Goals as goal

pub returns : goal.returns
unfolding windows_of
returns c = c.finding_at.ensures
