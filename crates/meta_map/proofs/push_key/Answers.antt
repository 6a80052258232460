use Rattle.meta_map.proofs.Stored.{key_pushed}
use Rattle.meta_map.proofs.push_key.Goals as goal

pub returns : goal.returns
returns c = key_pushed _ _ _ _ _ _ c.copy_words.ensures
