use Rattle.rules.specs.Model.{is_textual}
use Rattle.checks.proofs.Laws.{textual_not}
use Rattle.checks.proofs.is_textual.Goals as goal
use Rattle.sheet.specs.Words.{kind_in}

pub returns-in-Textual : goal.returns-in-Textual
unfolding is_textual kind_in
returns-in-Textual c = rw c.in-Textual.is

pub returns-in_default : goal.returns-in_default
returns-in_default c = textual_not _ c.in_default.not-Textual
