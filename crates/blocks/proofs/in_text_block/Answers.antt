use Rattle.blocks.proofs.Lines.{text_component, text_ended, text_more, text_refused}
use Rattle.blocks.proofs.in_text_block.Goals as goal

pub returns-in-Step-clause-done : goal.returns-in-Step-clause-done
returns-in-Step-clause-done c = text_refused _ c.in-End.is c.in-Step.is

pub returns-in-Text-kind-clause-done : goal.returns-in-Text-kind-clause-done
returns-in-Text-kind-clause-done c = text_ended _ c.in-End.is c.in-Text-kind.is c.close_text.ensures.done

pub returns-in-Text-clause-done : goal.returns-in-Text-clause-done
returns-in-Text-clause-done c = text_more c.args.memory.now.sound _ c.in-Text.is c.with_block-memory.ensures

pub returns-in-Component-clause-done : goal.returns-in-Component-clause-done
returns-in-Component-clause-done c = text_component _ c.in-Component.is
