use Rattle.page_parts.proofs.Parts.{line_sections, line_timers, line_inline, line_old}
use Rattle.page_parts.proofs.each_part.draw_line.Goals as goal

pub sections_line-requires : goal.sections_line-requires
sections_line-requires c = (c.requires.0.fields, c.requires.1, c.requires.2)

pub timers_line-count-requires : goal.timers_line-count-requires
timers_line-count-requires c = c.requires.0.fields

pub inline_line-requires : goal.inline_line-requires
inline_line-requires c = (c.requires.0.fields, c.requires.2)

pub old_line-count-requires : goal.old_line-count-requires
old_line-count-requires c = c.requires.0.within

pub returns-in-Sections : goal.returns-in-Sections
returns-in-Sections c = line_sections c.in-Sections.is c.sections_line.ensures

pub returns-in-Timers : goal.returns-in-Timers
returns-in-Timers c = line_timers c.in-Timers.is c.timers_line-count.ensures

pub returns-in-Inline : goal.returns-in-Inline
returns-in-Inline c = line_inline c.in-Inline.is c.inline_line.ensures

pub returns-in-Old : goal.returns-in-Old
returns-in-Old c = line_old c.in-Old.is c.old_line-count.ensures
