use Rattle.plain_lines.proofs.Fields.{marked_put}
use Rattle.plain_lines.proofs.put_marked.Goals as goal

pub returns : goal.returns
returns c = marked_put _ _ c.put_span-a.ensures c.put_text_fields-b.ensures c.put_opt_text_fields-c.ensures c.put_opt_quantity_fields-d.ensures c.put_opt_text_fields-e.ensures c.with_reference-m.ensures c.put_modifiers-f.ensures c.put_span.ensures
