use Rattle.new_rows.proofs.Laws.{row_made}
use Rattle.new_rows.proofs.new_row.Goals as goal

pub returns : goal.returns
returns c = row_made _ _ _ _ _ _
