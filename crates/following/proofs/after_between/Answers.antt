use Rattle.following.proofs.Follows.{within_meta, between_meta, between_section, between_start}
use Rattle.following.proofs.after_between.Goals as goal

pub meta_of-m-requires : goal.meta_of-m-requires
meta_of-m-requires c = let w = within_meta _ _ _ c.in-Meta.is c.requires in (w.0, w.1)

pub returns-in-Meta : goal.returns-in-Meta
returns-in-Meta c = between_meta _ _ c.in-Meta.is c.meta_of-m.ensures c.after_meta.ensures

pub returns-in-Section : goal.returns-in-Section
returns-in-Section c = between_section _ c.in-Section.is c.is_some-named.ensures c.after_section.ensures

pub returns-in-Start : goal.returns-in-Start
returns-in-Start c = between_start _ c.in-Start.is c.opens_as-o.ensures c.after_start.ensures
