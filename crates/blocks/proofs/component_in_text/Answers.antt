use Rattle.blocks.proofs.Lines.{found_at, mode_found}
use Rattle.blocks.proofs.component_in_text.Goals as goal

pub returns-clause-done : goal.returns-clause-done
returns-clause-done c = mode_found c.args.memory.now.sound c.component_span-s.ensures c.with_block-memory.ensures c.push_finding.ensures.finding (found_at _ _ c.one_span-x.ensures)
