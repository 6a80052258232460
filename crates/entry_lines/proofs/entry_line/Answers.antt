use borrow.Author.Rules.{rules}
use Rattle.model.specs.Kinds.{kind_of}
use Rattle.memory.proofs.Reading.{row_room}
use Rattle.entry_lines.proofs.Rows.{line_order, line_most, line_kind, line_without, put_entry_line}
use Rattle.entry_lines.proofs.entry_line.Goals as goal

pub row-row-requires : goal.row-row-requires
row-row-requires c = row_room (kind_of c.args.kind) c.args.stored.now.sound c.requires.1

pub slice_bounds-put_component-count : goal.slice_bounds-put_component-count
slice_bounds-put_component-count c = let x = line_order (kind_of c.args.kind) c.requires.0 c.requires.1 c.row-row.ensures in search rules

pub slice_bounds-put_component-start : goal.slice_bounds-put_component-start
slice_bounds-put_component-start c = let x = line_order (kind_of c.args.kind) c.requires.0 c.requires.1 c.row-row.ensures in search rules

pub slice_bounds-put_component-end : goal.slice_bounds-put_component-end
slice_bounds-put_component-end c = let x = line_most (kind_of c.args.kind) c.requires.0 c.requires.1 c.row-row.ensures in search rules

pub put_component-c-requires : goal.put_component-c-requires
put_component-c-requires c = (line_kind (kind_of c.args.kind) c.requires.0 c.requires.1 c.row-row.ensures, line_without (kind_of c.args.kind) c.requires.0 c.requires.1 c.row-row.ensures)

pub returns : goal.returns
returns c = put_entry_line (kind_of c.args.kind) c.requires.0 c.requires.1 c.row-row.ensures _ c.modifiers_of-marks.ensures c.put_word-a.ensures c.put_number-b.ensures c.put_component-c.ensures c.put_relation-d.ensures c.put_byte.ensures
