use Rattle.plain_lines.proofs.Lines.{cookware_put}
use Rattle.plain_lines.proofs.marked_cookware.Goals as goal

pub returns : goal.returns
returns c = cookware_put _ c.put_bytes-a.ensures c.put_marked-b.ensures c.put_byte.ensures
