use Rattle.plain_lines.proofs.Fields.{span_put}
use Rattle.plain_lines.proofs.put_span.Goals as goal

pub returns : goal.returns
returns c = span_put _ c.put_number-n.ensures c.put_number.ensures
