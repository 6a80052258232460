use mathlib.Core.Path.{ap}
use Rattle.events.specs.declared.EventView.TheVariants as event
use Rattle.pass.proofs.Lines.{here_as, text_ready, step_end, step_text, step_component}
use Rattle.pass.proofs.Rooms.{room_step}
use Rattle.pass.proofs.in_step_block.Goals as goal

pub end_step-requires : goal.end_step-requires
end_step-requires c = room_step c.requires.0 c.requires.1

pub text_in_step-requires : goal.text_in_step-requires
text_in_step-requires c = text_ready _ c.in-Text.is c.requires.0 c.requires.1

pub on_component-requires : goal.on_component-requires
on_component-requires c = (here_as _ (ap event.Inside c.in-Component.is) c.requires.0, c.requires.1, c.requires.2)

pub returns-in-End-clause-done : goal.returns-in-End-clause-done
returns-in-End-clause-done c = step_end _ c.in-End.is c.requires.1.kept.fit c.end_step.ensures.done

pub returns-in-Text-clause-done : goal.returns-in-Text-clause-done
returns-in-Text-clause-done c = step_text _ c.in-Text.is c.requires.1.kept.fit c.text_in_step.ensures.done

pub returns-in-Component-clause-done : goal.returns-in-Component-clause-done
returns-in-Component-clause-done c = step_component _ c.in-Component.is c.on_component.ensures.done
