use Rattle.step_lines.proofs.Splits.{view_field, view_room, lines_split, lines_none}
use Rattle.step_lines.proofs.inline_lines.Goals as goal

pub split_quantities-requires : goal.split_quantities-requires
split_quantities-requires c = (view_field _ _ c.part_of-s.ensures c.requires.0, view_room _ _ _ c.part_of-s.ensures c.requires.1)

pub returns-then-bit-eq1 : goal.returns-then-bit-eq1
returns-then-bit-eq1 c = lines_split _ _ _ _ c.part_of-s.ensures c.requires.0 c.if-bit-eq1.true c.split_quantities.ensures

pub returns : goal.returns
returns c = lines_none _ _ _ c.if-bit-eq1.false
