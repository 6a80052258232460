use Rattle.lookup.proofs.Names.{agree_not}
use Rattle.lookup.proofs.agrees.Goals as goal

pub returns-else-any_opt : goal.returns-else-any_opt
returns-else-any_opt c = agree_not _ _ _ c.if-any_opt.false
