use Rattle.lookup.proofs.Names.{named_part}
use Rattle.lookup.proofs.named.Goals as goal

pub returns : goal.returns
returns c = named_part _ _ _ _ _ c.requires.0 c.same_name.ensures
