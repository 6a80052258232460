use Rattle.model.proofs.row_target.Goals as goal
use Rattle.model.proofs.Columns.{target_found, target_none}

pub returns-then-rows-at-eq1 : goal.returns-then-rows-at-eq1
returns-then-rows-at-eq1 c = target_found c.args.rows.now c.args.i c.if-rows-at-eq1.true

pub returns : goal.returns
returns c = target_none c.args.rows.now c.args.i c.if-rows-at-eq1.false
