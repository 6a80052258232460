use Rattle.checks.proofs.Laws.{nothing_found, one_found, when_not, when_yes}
use Rattle.checks.proofs.conflict_check.Goals as goal

pub returns-then-in_step : goal.returns-then-in_step
returns-then-in_step c = nothing_found (when_not _ _ c.if-in_step.true)

pub returns : goal.returns
returns c = one_found _ c.two_spans.ensures (when_yes _ _ c.if-in_step.false)
