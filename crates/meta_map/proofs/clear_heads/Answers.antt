use Rattle.meta_map.proofs.Stored.{heads_cleared}
use Rattle.meta_map.proofs.clear_heads.Goals as goal

pub returns : goal.returns
returns c = heads_cleared c.args.m.now c.requires (c.fill.ensures.after (λ y e. e))
