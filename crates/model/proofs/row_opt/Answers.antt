use Rattle.model.proofs.row_opt.Goals as goal
use Rattle.model.proofs.Columns.{opt_word}

pub returns : goal.returns
returns c = opt_word c.args.rows.now c.args.i
