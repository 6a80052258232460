use Rattle.lookup.proofs.Names.{part_found}
use Rattle.lookup.proofs.found_before.Goals as goal

pub returns : goal.returns
returns c = part_found c.requires.0 c.same_component.ensures
