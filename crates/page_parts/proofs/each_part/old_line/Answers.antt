use Rattle.page_parts.proofs.Timers.{meta_within, old_meta, old_section, old_start, old_inside, old_finding}
use Rattle.page_parts.proofs.each_part.old_line.Goals as goal

pub meta_line-requires : goal.meta_line-requires
meta_line-requires c = let w = meta_within _ _ _ _ c.in-Between.is c.in-Meta.is c.requires in (w.0, w.1)

pub returns-in-Meta : goal.returns-in-Meta
returns-in-Meta c = old_meta c.args.f _ _ _ c.in-Between.is c.in-Meta.is c.meta_line.ensures

pub returns-in-Section : goal.returns-in-Section
returns-in-Section c = old_section c.args.f _ _ c.in-Between.is c.in-Section.is

pub returns-in-Start : goal.returns-in-Start
returns-in-Start c = old_start c.args.f _ _ c.in-Between.is c.in-Start.is

pub returns-in-Inside : goal.returns-in-Inside
returns-in-Inside c = old_inside c.args.f _ c.in-Inside.is

pub returns-in-Finding : goal.returns-in-Finding
returns-in-Finding c = old_finding c.args.f _ _ c.in-Finding.is
