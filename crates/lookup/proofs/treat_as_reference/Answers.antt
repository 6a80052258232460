use Rattle.lookup.proofs.References.{explicit_first, steps_next, treat_first, treat_found, treat_not}
use Rattle.lookup.proofs.treat_as_reference.Goals as goal
use Rattle.lookup.proofs.treat_as_reference.Goals.{then-reference, else-reference}

pub returns-then-is_steps : goal.returns-then-is_steps
returns-then-is_steps c = treat_first (elim c.if-reference.branch [ then-reference w ↦ explicit_first _ w.if-reference.true w.value-is | else-reference w ↦ steps_next w.if-reference.false w.is_steps.ensures w.value-is ]) c.if-is_steps.true

pub returns-then-is_reference : goal.returns-then-is_reference
returns-then-is_reference c = treat_found (elim c.if-reference.branch [ then-reference w ↦ explicit_first _ w.if-reference.true w.value-is | else-reference w ↦ steps_next w.if-reference.false w.is_steps.ensures w.value-is ]) c.if-is_steps.false c.is_reference.ensures c.if-is_reference.true

pub returns-else-is_reference : goal.returns-else-is_reference
returns-else-is_reference c = treat_not (elim c.if-reference.branch [ then-reference w ↦ explicit_first _ w.if-reference.true w.value-is | else-reference w ↦ steps_next w.if-reference.false w.is_steps.ensures w.value-is ]) c.if-is_steps.false c.is_reference.ensures c.if-is_reference.false
