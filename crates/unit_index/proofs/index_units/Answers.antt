use borrow.Author.Tests.{not-true, not-false}
use Rattle.unit_index.proofs.Adds.{units_ill, units_twice, units_good}
use mathlib.Core.Path.{sym, ◌∙◌}
use Rattle.unit_index.proofs.index_units.Goals as goal

pub returns-then-not-is_list : goal.returns-then-not-is_list
returns-then-not-is_list c = units_ill _ c.is_list.ensures c.told-index (not-true _ c.if-not-is_list.true-raw)

pub add_lines-requires : goal.add_lines-requires
add_lines-requires c = (sym c.is_list.ensures ∙ not-false _ c.if-not-is_list.false-raw, c.requires, c.clear_heads.ensures)

pub returns-then-add_lines : goal.returns-then-add_lines
returns-then-add_lines c = units_twice _ c.is_list.ensures (not-false _ c.if-not-is_list.false-raw) c.add_lines.ensures c.if-add_lines.true

pub returns : goal.returns
returns c = units_good _ c.is_list.ensures (not-false _ c.if-not-is_list.false-raw) c.add_lines.ensures c.if-add_lines.false
