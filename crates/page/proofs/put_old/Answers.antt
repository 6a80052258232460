use Rattle.page.proofs.Joins.{old_absent, old_put}
use Rattle.page.proofs.put_old.Goals as goal

pub returns-then-n-eq0 : goal.returns-then-n-eq0
returns-then-n-eq0 c = old_absent c.if-n-eq0.true c.begin.ensures

pub returns : goal.returns
returns c = old_put c.if-n-eq0.false c.put_old_open-a.ensures c.draw_part-b.ensures c.put_old_close.ensures
