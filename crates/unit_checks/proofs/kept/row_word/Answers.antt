use Rattle.unit_checks.proofs.Codes.{word_kept, word_added}
use Rattle.unit_checks.proofs.kept.row_word.Goals as goal

pub returns-then-known-ne0 : goal.returns-then-known-ne0
returns-then-known-ne0 c = (word_kept c.requires.0 c.args.i c.requires.4 _ _ c.kept_word-known.ensures c.if-known-ne0.true, c.requires.0)

pub returns : goal.returns
returns c = (c.line_word-w.ensures, rw c.keep_word.ensures (word_added c.requires.0 c.args.i c.requires.4 _ _ _ c.line_word-w.ensures))
