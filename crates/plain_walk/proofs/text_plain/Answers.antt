use Rattle.plain_walk.proofs.Becomes.{mode_end, mode_text, mode_component}
use Rattle.plain_walk.proofs.text_plain.Goals as goal

pub returns-in-End : goal.returns-in-End
returns-in-End c = mode_end _ c.in-End.is

pub returns-in-Text : goal.returns-in-Text
returns-in-Text c = mode_text _ c.in-Text.is

pub returns-in-Component : goal.returns-in-Component
returns-in-Component c = mode_component _ c.in-Component.is c.component_span.ensures
