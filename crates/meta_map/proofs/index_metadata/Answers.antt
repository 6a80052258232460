use Rattle.meta_map.proofs.Metas.{words_indexed}
use Rattle.meta_map.proofs.index_metadata.Goals as goal

pub returns : goal.returns
returns c = words_indexed c.args.words.now c.requires.1 c.fill_index.ensures
