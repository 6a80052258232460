use Rattle.step_lines.proofs.Splits.{view_field, view_room, lines_split, lines_whole}
use Rattle.step_lines.proofs.text_items.Goals as goal

pub split_items-requires : goal.split_items-requires
split_items-requires c = (view_field _ _ c.part_of-s.ensures c.requires.0, view_room _ _ _ c.part_of-s.ensures c.requires.1)

pub returns-then-bit-eq1 : goal.returns-then-bit-eq1
returns-then-bit-eq1 c = lines_split _ _ _ _ c.part_of-s.ensures c.requires.0 c.if-bit-eq1.true c.split_items.ensures

pub text_item_line-count-requires : goal.text_item_line-count-requires
text_item_line-count-requires c = view_field _ _ c.part_of-s.ensures c.requires.0

pub returns : goal.returns
returns c = lines_whole _ _ _ _ c.part_of-s.ensures c.requires.0 c.if-bit-eq1.false c.text_item_line-count.ensures
