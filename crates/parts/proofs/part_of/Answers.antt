use Rattle.parts.proofs.Contents.{part_outside, part_reversed, part_rest, part_all}
use Rattle.parts.proofs.part_of.Goals.{then-line-from-via-then-line-from, then-line-from-via-else-line-from+then-to-from}
use Rattle.parts.proofs.part_of.Goals as goal

pub returns-then-line-from : goal.returns-then-line-from
returns-then-line-from c =
    elim c.then-line-from.branch [ then-line-from-via-then-line-from w ↦ part_outside _ _ w.if-line-from.true | then-line-from-via-else-line-from+then-to-from w ↦ part_reversed _ _ w.if-to-from.true ]

pub returns-then-line-to : goal.returns-then-line-to
returns-then-line-to c = part_rest _ _ c.if-line-to.true

pub returns : goal.returns
returns c = part_all _ _
