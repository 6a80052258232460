use Rattle.unit_index.proofs.Adds.{longer_kept, same_kept}
use Rattle.unit_index.proofs.keep_longest.Goals as goal

pub returns-then-index-size : goal.returns-then-index-size
returns-then-index-size c = longer_kept _ _ c.if-index-size.true

pub returns-else-index-size : goal.returns-else-index-size
returns-else-index-size c = same_kept _ _ c.if-index-size.false
