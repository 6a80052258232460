use Rattle.plain_lines.proofs.Fields.{quantity_put}
use Rattle.plain_lines.proofs.put_quantity_fields.Goals as goal

pub returns : goal.returns
returns c = quantity_put _ _ c.put_span-a.ensures c.put_kind-b.ensures c.put_span-c.ensures c.put_part-d.ensures c.put_lock-e.ensures c.put_opt_text_fields.ensures
