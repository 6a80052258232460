use Rattle.unit_index.proofs.Searches.{line_there}
use Rattle.unit_index.proofs.line_at.Goals as goal

pub unit_at-requires : goal.unit_at-requires
unit_at-requires c = c.requires.list

pub unwrap-requires : goal.unwrap-requires
unwrap-requires c = line_there c.requires _ c.unit_at.ensures
