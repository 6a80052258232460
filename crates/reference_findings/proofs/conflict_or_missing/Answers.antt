use Rattle.reference_findings.proofs.Laws.{missing, conflicts, agrees}
use Rattle.reference_findings.proofs.conflict_or_missing.Goals as goal

pub returns-then-any_beyond : goal.returns-then-any_beyond
returns-then-any_beyond c = conflicts _ _ c.in-Some.is c.handed_down-b.ensures c.any_beyond.ensures c.if-any_beyond.true c.one_span-then-any_beyond.ensures

pub returns-in-None : goal.returns-in-None
returns-in-None c = missing c.in-None.is c.one_span.ensures

pub returns-else-any_beyond : goal.returns-else-any_beyond
returns-else-any_beyond c = agrees _ _ c.in-Some.is c.handed_down-b.ensures c.any_beyond.ensures c.if-any_beyond.false
