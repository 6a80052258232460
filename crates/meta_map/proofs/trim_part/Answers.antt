use Rattle.meta_map.proofs.Metas.{trimmed_part}
use Rattle.meta_map.proofs.trim_part.Goals as goal

pub returns : goal.returns
returns c = trimmed_part c.args.line.now c.args.p _ _ c.requires.0 c.requires.1 c.start_of-a.ensures c.end_of-e.ensures
