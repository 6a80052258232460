use Rattle.std.proofs.Common.{sym, ◌∙◌, true≢false}
use Rattle.reference_findings.proofs.Laws.{ref_not, ref_duplicate, ref_steps, ref_needed}
use Rattle.reference_findings.proofs.redundant_ref.Goals as goal
use Rattle.reference_findings.proofs.redundant_ref.Goals.{then-is_reference, else-is_reference, else-explicit-via-else-explicit, else-explicit-via-then-explicit+else-is_steps}

pub returns-then-is_steps : goal.returns-then-is_steps
returns-then-is_steps c =
    elim c.if-is_reference.branch [
      | then-is_reference w ↦ ref_duplicate c.if-explicit.true c.is_reference.ensures c.one_span.ensures w.if-is_reference.true
      | else-is_reference w ↦ ref_steps c.if-explicit.true c.is_reference.ensures w.if-is_reference.false w.is_steps.ensures c.one_span.ensures (sym w.value-is ∙ c.if-is_steps.true)
    ]

pub returns : goal.returns
returns c =
    elim c.else-explicit.branch [
      | else-explicit-via-else-explicit w ↦ ref_not w.if-explicit.false
      | else-explicit-via-then-explicit+else-is_steps w ↦ elim w.if-is_reference.branch [
        | then-is_reference u ↦ absurd (true≢false (sym u.if-is_reference.true ∙ w.if-is_steps.fact))
        | else-is_reference u ↦ ref_needed w.if-explicit.true w.is_reference.ensures u.if-is_reference.false u.is_steps.ensures (sym u.value-is ∙ w.if-is_steps.false)
      ]
    ]
