use Rattle.stored_cases.proofs.Places.{part_past, part_turned, part_within}
use Rattle.stored_cases.proofs.part.Goals as goal

pub returns-then-s-to : goal.returns-then-s-to
returns-then-s-to c = part_past _ _ _ c.if-s-to.true

pub returns-then-to-from : goal.returns-then-to-from
returns-then-to-from c = part_turned _ _ _ c.if-to-from.true

pub returns : goal.returns
returns c = part_within _ _ _ c.if-s-to.false c.if-to-from.false
