use Rattle.memory.proofs.Endings.{end_open, end_none, end_some}
use Rattle.memory.proofs.check_end.Goals as goal

pub returns-then-is_open : goal.returns-then-is_open
returns-then-is_open c = end_open _ _ c.is_open.ensures c.if-is_open.true

pub returns-then-h-eq0 : goal.returns-then-h-eq0
returns-then-h-eq0 c = end_none _ c.is_open.ensures c.if-is_open.false c.begin_section-g.ensures _ c.if-h-eq0.true c.check_limits.ensures

pub returns : goal.returns
returns c = end_some _ c.is_open.ensures c.if-is_open.false c.begin_section-g.ensures _ c.if-h-eq0.false c.check_limits-2.ensures
