use mathlib.Core.Path.{refl}
use Rattle.checks.proofs.Laws.{widened_first, widened_other}
use Rattle.checks.proofs.widened_span.Goals as goal

pub returns-then-at-eq0 : goal.returns-then-at-eq0
returns-then-at-eq0 c = widened_first _ c.if-at-eq0.true refl

pub returns : goal.returns
returns c = widened_other _ refl refl
