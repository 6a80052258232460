use Rattle.page_parts.proofs.Timers.{inline_between, inline_end, inline_text_lem, inline_component, inline_finding, body_field}
use Rattle.page_parts.proofs.each_part.inline_line.Goals as goal

pub quantities_of-requires : goal.quantities_of-requires
quantities_of-requires c = (body_field _ _ _ c.in-Inside.is c.in-Text.is c.requires.0, c.requires.1)

pub returns-in-Between : goal.returns-in-Between
returns-in-Between c = inline_between c.args.f _ c.in-Between.is

pub returns-in-End : goal.returns-in-End
returns-in-End c = inline_end c.args.f _ _ c.in-Inside.is c.in-End.is

pub returns-in-Text : goal.returns-in-Text
returns-in-Text c = inline_text_lem c.args.f _ _ c.in-Inside.is c.in-Text.is c.quantities_of.ensures

pub returns-in-Component : goal.returns-in-Component
returns-in-Component c = inline_component c.args.f _ _ c.in-Inside.is c.in-Component.is

pub returns-in-Finding : goal.returns-in-Finding
returns-in-Finding c = inline_finding c.args.f _ _ c.in-Finding.is
