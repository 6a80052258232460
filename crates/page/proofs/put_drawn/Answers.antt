use Rattle.page.proofs.Joins.{drawn_none, drawn_some}
use Rattle.page.proofs.put_drawn.Goals as goal

pub returns-then-n-eq0 : goal.returns-then-n-eq0
returns-then-n-eq0 c = drawn_none c.if-n-eq0.true c.begin.ensures

pub returns : goal.returns
returns c = drawn_some c.draw_part.ensures
