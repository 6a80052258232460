use Rattle.std.proofs.Common.{sym, ◌∙◌}
use Rattle.output.proofs.Texts.{text_is}
use Rattle.output.proofs.Runs.{plain_char}
use Rattle.output.proofs.put_escaped_byte.Goals as goal

pub returns-then-is_plain : goal.returns-then-is_plain
returns-then-is_plain c = text_is _ (plain_char _ (sym c.is_plain.ensures ∙ c.if-is_plain.true)) c.put_byte.ensures
