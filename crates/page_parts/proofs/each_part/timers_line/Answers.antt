use Rattle.page_parts.proofs.Timers.{timers_between, timers_end, timers_text, timers_component, timers_finding, component_field}
use Rattle.page_parts.proofs.each_part.timers_line.Goals as goal

pub timer_of-requires : goal.timer_of-requires
timer_of-requires c = component_field _ _ _ c.in-Inside.is c.in-Component.is c.requires

pub returns-in-Between : goal.returns-in-Between
returns-in-Between c = timers_between _ c.args.f _ c.in-Between.is

pub returns-in-End : goal.returns-in-End
returns-in-End c = timers_end _ c.args.f _ _ c.in-Inside.is c.in-End.is

pub returns-in-Text : goal.returns-in-Text
returns-in-Text c = timers_text _ c.args.f _ _ c.in-Inside.is c.in-Text.is

pub returns-in-Component : goal.returns-in-Component
returns-in-Component c = timers_component _ c.args.f _ _ c.in-Inside.is c.in-Component.is c.timer_of.ensures

pub returns-in-Finding : goal.returns-in-Finding
returns-in-Finding c = timers_finding _ c.args.f _ _ c.in-Finding.is
