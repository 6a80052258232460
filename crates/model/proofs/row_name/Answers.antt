use Rattle.model.proofs.row_name.Goals as goal
use Rattle.model.proofs.Columns.{name_words}

pub returns : goal.returns
returns c = name_words c.args.rows.now c.args.i
