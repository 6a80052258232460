use Rattle.std.proofs.Common.{inl, inr}
use Rattle.reference_findings.proofs.Laws.{new_steps, new_found, new_missing, new_always}
use Rattle.reference_findings.proofs.redundant_new.Goals as goal
use Rattle.reference_findings.proofs.redundant_new.Goals.{then-is_steps-via-then-is_steps, then-is_steps-via-else-is_steps+then-is_found}

pub returns-then-is_steps : goal.returns-then-is_steps
returns-then-is_steps c =
    elim c.then-is_steps.branch [
      | then-is_steps-via-then-is_steps w ↦ new_steps c.is_steps.ensures w.if-is_steps.true
      | then-is_steps-via-else-is_steps+then-is_found w ↦ new_found c.is_steps.ensures w.if-is_steps.false w.is_reference.ensures w.if-is_found.fact.0 w.if-is_found.fact.1
    ]

pub returns : goal.returns
returns c =
    elim c.if-is_found.either [
      | inl n ↦ new_missing c.is_steps.ensures c.if-is_steps.false c.is_reference.ensures c.one_span.ensures n.0 n.1
      | inr n ↦ new_always c.is_steps.ensures c.if-is_steps.false c.is_reference.ensures c.one_span.ensures n
    ]
