use Rattle.plain_lines.proofs.Lines.{ingredient_put}
use Rattle.plain_lines.proofs.marked_ingredient.Goals as goal

pub returns : goal.returns
returns c = ingredient_put _ c.put_bytes-a.ensures c.put_marked-b.ensures c.put_field-c.ensures c.put_byte.ensures
