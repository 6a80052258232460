use Rattle.step_lines.proofs.Sources.{source_put}
use Rattle.step_lines.proofs.source_piece.Goals as goal

pub returns : goal.returns
returns c = source_put _ _ c.requires c.args.text.now.utf8 c.put_escaped.ensures
