use Rattle.text.proofs.Names.{same_start}
use Rattle.text.proofs.same_rest.Goals as goal

pub loop-x-init : goal.loop-x-init
loop-x-init c = same_start _ _ _ _ c.start-i.ensures c.start-j.ensures
