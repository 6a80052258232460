use Rattle.finding_lines.proofs.Texts.{parse_put}
use Rattle.finding_lines.proofs.parse_line.Goals as goal

pub returns : goal.returns
returns c = parse_put _ _ c.put_bytes-a.ensures c.put_severity-b.ensures c.put_number-c.ensures c.put_byte.ensures
