use Rattle.lookup.specs.References.{modes_of}
use Rattle.lookup.proofs.References.{explicit_first, steps_next, asks_steps, asks_last}
use Rattle.lookup.proofs.asks_same.Goals as goal
use Rattle.lookup.proofs.asks_same.Goals.{then-reference, else-reference}

pub returns-then-is_steps : goal.returns-then-is_steps
returns-then-is_steps c = asks_steps (modes_of c.args.define c.args.duplicate) c.args.reference {v = c.if-reference.value} (elim c.if-reference.branch [ then-reference w ↦ explicit_first _ w.if-reference.true w.value-is | else-reference w ↦ steps_next w.if-reference.false w.is_steps.ensures w.value-is ]) c.if-is_steps.true

pub returns-else-is_steps : goal.returns-else-is_steps
returns-else-is_steps c = asks_last (modes_of c.args.define c.args.duplicate) c.args.reference {v = c.if-reference.value} (elim c.if-reference.branch [ then-reference w ↦ explicit_first _ w.if-reference.true w.value-is | else-reference w ↦ steps_next w.if-reference.false w.is_steps.ensures w.value-is ]) c.if-is_steps.false c.is_reference.ensures
