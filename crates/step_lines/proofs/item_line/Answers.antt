use Rattle.step_lines.proofs.Lines.{item_put}
use Rattle.step_lines.proofs.item_line.Goals as goal

pub returns : goal.returns
returns c = record { line = λ k. item_put _ _ k c.put_bytes-a.ensures c.put_kind-b.ensures c.put_number-c.ensures c.put_byte.ensures }
