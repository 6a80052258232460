use Rattle.plain_lines.proofs.Fields.{text_put}
use Rattle.plain_lines.proofs.put_text_fields.Goals as goal

pub returns : goal.returns
returns c = text_put _ _ c.put_span-n.ensures c.put_text.ensures
