use Rattle.entry_lines.specs.Lines.{entry_line}
use Rattle.page.proofs.Joins.{draw_given, tables_put}
use Rattle.page.proofs.put_tables.Goals as goal

pub component_lines-a-requires : goal.component_lines-a-requires
component_lines-a-requires c = c.requires.ran.kept.fit

pub component_lines-b-requires : goal.component_lines-b-requires
component_lines-b-requires c = c.requires.ran.kept.fit

pub put_drawn-c-requires : goal.put_drawn-c-requires
put_drawn-c-requires c = draw_given c.requires

pub put_drawn-requires : goal.put_drawn-requires
put_drawn-requires c = draw_given c.requires

pub returns : goal.returns
unfolding entry_line
returns c = tables_put c.component_lines-a.ensures c.component_lines-b.ensures c.put_drawn-c.ensures c.put_drawn.ensures
