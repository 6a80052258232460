use Rattle.step_lines.proofs.Splits.{view_put}
use Rattle.step_lines.proofs.text_piece.Goals as goal

pub returns : goal.returns
returns c = view_put _ _ c.part_of-f.ensures c.requires c.put_bytes.ensures
