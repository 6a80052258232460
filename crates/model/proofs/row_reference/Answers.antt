use Rattle.model.proofs.row_reference.Goals as goal
use Rattle.model.proofs.Columns.{reference_word}

pub returns : goal.returns
returns c = reference_word c.args.rows.now c.args.i
