use Rattle.page.proofs.Idle.{idle_short, idle_sections, idle_timers, idle_inline, idle_old}
use Rattle.page.proofs.walk.is_idle.Goals as goal

pub returns-then-line-lt2 : goal.returns-then-line-lt2
returns-then-line-lt2 c = idle_short _ _ c.if-line-lt2.true

pub returns-in-Sections : goal.returns-in-Sections
returns-in-Sections c = idle_sections _ c.if-line-lt2.false c.in-Sections.is

pub returns-in-Timers : goal.returns-in-Timers
returns-in-Timers c = idle_timers _ c.if-line-lt2.false c.in-Timers.is c.is_aside.ensures

pub returns-in-Inline : goal.returns-in-Inline
returns-in-Inline c = idle_inline _ c.if-line-lt2.false c.in-Inline.is c.is_aside-in-Inline.ensures

pub returns-in-Old : goal.returns-in-Old
returns-in-Old c = idle_old _ c.if-line-lt2.false c.in-Old.is c.is_other.ensures
