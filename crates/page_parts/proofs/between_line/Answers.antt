use Rattle.page_parts.proofs.Sections.{between_meta, between_section, between_start, section_field}
use Rattle.page_parts.proofs.between_line.Goals as goal

pub named_line-requires : goal.named_line-requires
named_line-requires c = section_field _ _ c.in-Section.is c.requires

pub returns-in-Meta : goal.returns-in-Meta
returns-in-Meta c = between_meta _ c.args.f _ _ c.in-Meta.is

pub returns-in-Section : goal.returns-in-Section
returns-in-Section c = between_section _ c.args.f _ c.in-Section.is c.named_line.ensures

pub returns-in-Start : goal.returns-in-Start
returns-in-Start c = between_start _ c.args.f _ c.in-Start.is c.opens_as-o.ensures c.start_line.ensures
