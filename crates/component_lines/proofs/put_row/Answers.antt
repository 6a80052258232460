use Rattle.blocks.proofs.Fitting.{items_sound}
use Rattle.component_lines.proofs.Whole.{add_ready, items_ready}
use Rattle.component_lines.proofs.put_row.Goals as goal

pub add_component-requires : goal.add_component-requires
add_component-requires c = add_ready c.requires.0 c.requires.1

pub push_items-memory-requires : goal.push_items-memory-requires
push_items-memory-requires c = items_ready c.requires.0 c.add_component.ensures.added

pub returns-clause-done : goal.returns-clause-done
returns-clause-done c = record { between = c.add_component.new.self.held; added = c.add_component.ensures.added; items = c.push_items-memory.ensures }

pub invariant_of-memory : goal.invariant_of-memory
invariant_of-memory c = record { sound = items_sound c.push_items-memory.ensures _ c.add_component.ensures.added.sound }
