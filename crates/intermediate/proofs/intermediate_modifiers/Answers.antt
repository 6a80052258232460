use Rattle.intermediate.proofs.Laws.{modifiers_found, modifiers_none}
use Rattle.intermediate.proofs.intermediate_modifiers.Goals as goal
use Rattle.intermediate.proofs.intermediate_modifiers.Goals.{then-m-via-then-m, then-m-via-else-m+then-m-2, then-m-via-else-m+else-m-2+then-m-3}

pub returns-then-m : goal.returns-then-m
returns-then-m c =
    modifiers_found (elim c.then-m.branch [
      | then-m-via-then-m w ↦ rw w.if-m.true
      | then-m-via-else-m+then-m-2 w ↦ rw (w.if-m.false, w.if-m-2.true)
      | then-m-via-else-m+else-m-2+then-m-3 w ↦ rw (w.if-m.false, w.if-m-2.false, w.if-m-3.true)
    ]) c.one_span.ensures

pub returns : goal.returns
returns c = modifiers_none (rw (c.if-m.false, c.if-m-2.false, c.if-m-3.false))
