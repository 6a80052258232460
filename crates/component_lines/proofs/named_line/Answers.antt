use Rattle.component_lines.proofs.Asked.{same_below}
use Rattle.component_lines.proofs.Places.{name_ready}
use Rattle.component_lines.proofs.Whole.{row_ready}
use Rattle.component_lines.proofs.Named.{to_there, to_small, put_ready, named_done}
use Rattle.component_lines.proofs.named_line.Goals as goal

pub name_of-p-requires : goal.name_of-p-requires
name_of-p-requires c = name_ready c.requires.0

pub old_of-old-requires : goal.old_of-old-requires
old_of-old-requires c = same_below c.same_of-same.ensures

pub row_named-row-requires : goal.row_named-row-requires
row_named-row-requires c = let q = row_ready c.requires.0 c.name_of-p.ensures in (q.0, q.1, q.2, q.3, to_small c.requires.0 c.name_of-p.ensures c.same_of-same.ensures c.old_of-old.ensures c.refers_to-to.ensures c.args.memory.now.sound)

pub found_of-found-requires : goal.found_of-found-requires
found_of-found-requires c = to_small c.requires.0 c.name_of-p.ensures c.same_of-same.ensures c.old_of-old.ensures c.refers_to-to.ensures c.args.memory.now.sound

pub named_reports-requires : goal.named_reports-requires
named_reports-requires c = let p = c.requires in (p.0, to_there p.0 c.name_of-p.ensures c.same_of-same.ensures c.old_of-old.ensures c.refers_to-to.ensures, p.1, p.2, p.3, p.4)

pub put_row-requires : goal.put_row-requires
put_row-requires c = put_ready c.requires.0 c.name_of-p.ensures c.same_of-same.ensures c.old_of-old.ensures c.refers_to-to.ensures c.named_reports.ensures.done c.found_of-found.ensures c.requires.2

pub returns-clause-done : goal.returns-clause-done
returns-clause-done c = named_done c.requires.0 c.name_of-p.ensures c.same_of-same.ensures c.old_of-old.ensures c.refers_to-to.ensures c.named_reports.ensures.done c.requires.1 c.is_components-in_step.ensures c.row_named-row.ensures c.found_of-found.ensures c.put_row.ensures.done
