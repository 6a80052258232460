use Rattle.clearing.proofs.Zeros.{rest_cleared, none_cleared}
use Rattle.clearing.proofs.clear_from.Goals as goal

pub returns-then-at-bytes : goal.returns-then-at-bytes
returns-then-at-bytes c = rest_cleared _ _ c.if-at-bytes.true c.clear_bytes.ensures

pub returns-else-at-bytes : goal.returns-else-at-bytes
returns-else-at-bytes c = none_cleared _ _ c.if-at-bytes.false
