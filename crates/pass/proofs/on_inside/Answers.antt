use Rattle.pass.proofs.Lines.{inside_none, inside_step, inside_text, inside_mode}
use Rattle.pass.proofs.Rooms.{room_blocks, room_mode}
use Rattle.pass.proofs.on_inside.Goals as goal

pub in_step_block-requires : goal.in_step_block-requires
in_step_block-requires c = c.requires

pub in_text_block-requires : goal.in_text_block-requires
in_text_block-requires c = room_blocks c.requires.0 c.requires.1

pub in_text_mode-requires : goal.in_text_mode-requires
in_text_mode-requires c = room_mode c.requires.0 c.requires.1

pub returns-in-Nothing-clause-done : goal.returns-in-Nothing-clause-done
returns-in-Nothing-clause-done c = inside_none c.in-Nothing.is c.requires.1.kept.fit

pub returns-in-Step-clause-done : goal.returns-in-Step-clause-done
returns-in-Step-clause-done c = inside_step c.in-Step.is c.in_step_block.ensures.done

pub returns-in-Text-clause-done : goal.returns-in-Text-clause-done
returns-in-Text-clause-done c = inside_text c.in-Text.is c.requires.1.kept.fit c.in_text_block.ensures.done

pub returns-in-TextMode-clause-done : goal.returns-in-TextMode-clause-done
returns-in-TextMode-clause-done c = inside_mode c.in-TextMode.is c.requires.1.kept.fit c.in_text_mode.ensures.done
