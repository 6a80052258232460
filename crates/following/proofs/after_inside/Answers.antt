use Rattle.following.proofs.Follows.{inside_end, inside_text, component_none, component_step, component_text, component_mode}
use Rattle.following.proofs.after_inside.Goals as goal

pub returns-in-End : goal.returns-in-End
returns-in-End c = inside_end _ c.in-End.is c.counter_after-n.ensures c.with_closed.ensures

pub returns-in-Text : goal.returns-in-Text
returns-in-Text c = inside_text _ c.in-Text.is

pub returns-in-Nothing : goal.returns-in-Nothing
returns-in-Nothing c = component_none _ c.in-Component.is c.in-Nothing.is

pub returns-in-Step : goal.returns-in-Step
returns-in-Step c = component_step _ c.in-Component.is c.in-Step.is c.count_component.ensures

pub returns-in-Text-b : goal.returns-in-Text-b
returns-in-Text-b c = component_text _ c.in-Component.is c.in-Text-b.is

pub returns-in-TextMode : goal.returns-in-TextMode
returns-in-TextMode c = component_mode _ c.in-Component.is c.in-TextMode.is
