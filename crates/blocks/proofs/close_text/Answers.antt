use Rattle.blocks.proofs.Lines.{text_kept}
use Rattle.blocks.proofs.close_text.Goals as goal

pub returns-clause-done : goal.returns-clause-done
returns-clause-done c = text_kept c.keep_text.ensures.kept
