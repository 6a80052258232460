use Rattle.lookup.proofs.Parts.{trimmed_at}
use Rattle.lookup.proofs.trimmed_place.Goals as goal

pub returns : goal.returns
returns c = trimmed_at _ _ _ c.start_of-at.ensures c.end_of-e.ensures
