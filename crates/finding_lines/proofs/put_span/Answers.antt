use Rattle.finding_lines.proofs.Texts.{span_put}
use Rattle.finding_lines.proofs.put_span.Goals as goal

pub returns : goal.returns
returns c = span_put c.args.s c.put_decimal-a.ensures c.put_byte-b.ensures c.put_decimal.ensures
