use Rattle.model.proofs.Searches.{target_back, target_ahead}
use Rattle.model.proofs.step_target.Goals as goal

pub returns-then-relative : goal.returns-then-relative
returns-then-relative c = target_back _ _ _ c.step_back.ensures c.if-relative.true

pub returns-else-relative : goal.returns-else-relative
returns-else-relative c = target_ahead _ _ _ c.step_ahead.ensures c.if-relative.false
