use mathlib.Core.Bool.{true, false}
use Rattle.memory.proofs.Endings.{limits_by}
use Rattle.memory.proofs.check_limits.Goals as goal

pub returns-then-over_limits : goal.returns-then-over_limits
returns-then-over_limits c = limits_by _ _ true c.over_limits.ensures c.if-over_limits.true

pub returns : goal.returns
returns c = limits_by _ _ false c.over_limits.ensures c.if-over_limits.false
