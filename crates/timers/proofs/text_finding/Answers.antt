use Rattle.checks.proofs.Laws.{nothing_found, one_found}
use Rattle.timers.proofs.Timers.{textual_is, textual_else, when_found, when_none}
use Rattle.timers.proofs.text_finding.Goals as goal
use Rattle.timers.proofs.text_finding.Goals.{in-Textual, in_default}

pub returns-then-matches : goal.returns-then-matches
returns-then-matches c =
    one_found _ c.one_span.ensures
    (when_found _ (elim c.match-matches.branch [ in-Textual w ↦ textual_is w.in-Textual.is w.matches-is | in_default w ↦ textual_else w.in_default.not-Textual w.matches-is ]) c.if-matches.true)

pub returns : goal.returns
returns c =
    nothing_found
    (when_none _ (elim c.match-matches.branch [ in-Textual w ↦ textual_is w.in-Textual.is w.matches-is | in_default w ↦ textual_else w.in_default.not-Textual w.matches-is ]) c.if-matches.false)
