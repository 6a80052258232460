use Rattle.component_lines.proofs.Places.{name_ready}
use Rattle.component_lines.proofs.Whole.{intermediate_roomy, intermediate_done}
use Rattle.component_lines.proofs.intermediate_line.Goals as goal

pub name_of-p-requires : goal.name_of-p-requires
name_of-p-requires c = name_ready c.requires.0

pub put_row-requires : goal.put_row-requires
put_row-requires c = intermediate_roomy c.intermediate_reports.ensures.done c.requires.2

pub returns-clause-done : goal.returns-clause-done
returns-clause-done c = intermediate_done c.requires.0 c.requires.1 c.name_of-p.ensures (rw (c.stored.ensures.words, c.stored.ensures.held) at c.intermediate_target-target.ensures) c.is_components-in_step.ensures c.intermediate_relation-relation.ensures c.row_of-row.ensures c.intermediate_reports.ensures.done c.put_row.ensures.done
