use Rattle.std.proofs.Common.{◌∙◌, ne_eqb}
use Rattle.parts.proofs.Alone.{alone_past, alone_other, alone_is}
use Rattle.parts.proofs.is_alone.Goals as goal

pub returns-then-line-at : goal.returns-then-line-at
returns-then-line-at c = alone_past _ _ _ c.if-line-at.true

pub returns-then-line-at-2 : goal.returns-then-line-at-2
returns-then-line-at-2 c = alone_is _ _ _ c.requires c.if-line-at.false c.if-line-at-2.true c.ends_at.ensures

pub returns-else-line-at-2 : goal.returns-else-line-at-2
returns-else-line-at-2 c = ne_eqb _ _ c.if-line-at-2.false ∙ alone_other _ _ _ c.if-line-at.false c.if-line-at-2.false
