use Rattle.blocks.proofs.Lines.{mode_component, mode_ended, mode_more}
use Rattle.blocks.proofs.in_text_mode.Goals as goal

pub returns-in-End-clause-done : goal.returns-in-End-clause-done
returns-in-End-clause-done c = mode_ended _ c.in-End.is c.close_text.ensures.done

pub returns-in-Text-clause-done : goal.returns-in-Text-clause-done
returns-in-Text-clause-done c = mode_more c.args.memory.now.sound _ c.in-Text.is c.with_block-memory.ensures

pub returns-in-Component-clause-done : goal.returns-in-Component-clause-done
returns-in-Component-clause-done c = mode_component _ c.in-Component.is c.component_in_text.ensures.done
