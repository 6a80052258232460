use Rattle.intermediate.proofs.Laws.{findings_none, findings_one, code_zero, code_bounds}
use Rattle.intermediate.proofs.intermediate_findings.Goals as goal
use Rattle.intermediate.proofs.intermediate_findings.Goals.{then-i-eq0, else-i-eq0}

pub returns-then-is_some : goal.returns-then-is_some
returns-then-is_some c = findings_none _ _ c.is_some.ensures c.if-is_some.true

pub returns : goal.returns
returns c =
    findings_one _ _ _ c.is_some.ensures c.if-is_some.false
    (elim c.if-i-eq0.branch [ then-i-eq0 w ↦ code_zero w.if-i-eq0.true w.code-is | else-i-eq0 w ↦ code_bounds w.if-i-eq0.false w.code-is ])
    c.one_span.ensures
