use Rattle.finding_lines.proofs.Texts.{pass_put}
use Rattle.finding_lines.proofs.pass_line.Goals as goal

pub returns : goal.returns
returns c = pass_put c.args.x c.requires c.is_error.ensures c.put_bytes-a.ensures c.put_severity-b.ensures c.put_number-c.ensures c.put_spans-d.ensures c.put_flag-e.ensures c.put_byte.ensures
