use Rattle.model.proofs.Stores.{put_whole}
use Rattle.model.proofs.copy_words.Goals as goal

pub returns : goal.returns
returns c = put_whole _ _ _ c.requires c.copy_from_slice.ensures.after
