use Rattle.blocks.proofs.Lines.{step_dropped, step_kept}
use Rattle.blocks.proofs.close_step.Goals as goal

pub returns-then-is_components-clause-done : goal.returns-then-is_components-clause-done
returns-then-is_components-clause-done c = step_dropped c.is_components.ensures c.if-is_components.true c.args.memory.now.sound c.with_block-memory.ensures

pub returns-else-is_components-clause-done : goal.returns-else-is_components-clause-done
returns-else-is_components-clause-done c = step_kept c.is_components.ensures c.if-is_components.false c.keep_step.ensures.kept
