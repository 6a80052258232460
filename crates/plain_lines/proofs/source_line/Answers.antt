use Rattle.step_lines.proofs.Sources.{source_put}
use Rattle.plain_lines.proofs.Lines as lines
use Rattle.plain_lines.proofs.source_line.Goals as goal

pub returns : goal.returns
returns c = lines.source_line _ _ c.put_bytes-a.ensures c.put_span-b.ensures c.put_byte-c.ensures (source_put _ _ c.requires c.args.text.now.utf8 c.put_escaped-d.ensures) c.put_byte.ensures
