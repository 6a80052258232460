use Rattle.page_parts.proofs.Sections.{inside_end, inside_text, inside_component, text_field, component_good}
use Rattle.page_parts.proofs.inside_line.Goals as goal

pub text_line-requires : goal.text_line-requires
text_line-requires c = (text_field _ _ c.in-Text.is c.requires.0, c.requires.2)

pub component_line-count-requires : goal.component_line-count-requires
component_line-count-requires c = component_good _ _ _ c.in-Component.is c.requires.1

pub returns-in-End : goal.returns-in-End
returns-in-End c = inside_end _ _ _ _ c.args.f _ c.in-End.is c.end_line-count.ensures

pub returns-in-Text : goal.returns-in-Text
returns-in-Text c = inside_text _ _ _ _ c.args.f _ c.in-Text.is c.text_line.ensures

pub returns-in-Component : goal.returns-in-Component
returns-in-Component c = inside_component _ _ _ _ c.args.f _ c.in-Component.is c.component_line-count.ensures
