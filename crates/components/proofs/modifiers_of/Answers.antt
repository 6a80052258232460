use Rattle.components.proofs.Leaves.{no_modifiers_lem, point_alone, not_point}
use Rattle.components.proofs.modifiers_of.Goals as goal

pub returns-then-f-eq0 : goal.returns-then-f-eq0
returns-then-f-eq0 c = no_modifiers_lem _ c.if-f-eq0.true

pub returns-then-same_bytes : goal.returns-then-same_bytes
returns-then-same_bytes c = point_alone _ c.if-f-eq0.false c.same_bytes.ensures c.if-same_bytes.true

pub returns : goal.returns
returns c = not_point _ c.if-f-eq0.false c.same_bytes.ensures c.if-same_bytes.false _ c.letters_of.ensures
