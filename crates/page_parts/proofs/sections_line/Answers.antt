use Rattle.page_parts.proofs.Sections.{sections_between, sections_inside, sections_finding, between_field, inside_field, inside_spans}
use Rattle.page_parts.proofs.sections_line.Goals as goal

pub between_line-count-requires : goal.between_line-count-requires
between_line-count-requires c = between_field _ _ c.in-Between.is c.requires.0

pub inside_line-requires : goal.inside_line-requires
inside_line-requires c = (inside_field _ _ c.in-Inside.is c.requires.0, inside_spans _ _ _ c.in-Inside.is c.requires.1, c.requires.2)

pub returns-in-Between : goal.returns-in-Between
returns-in-Between c = sections_between _ _ _ _ c.args.f _ c.in-Between.is c.between_line-count.ensures

pub returns-in-Inside : goal.returns-in-Inside
returns-in-Inside c = sections_inside _ _ _ _ c.args.f _ c.in-Inside.is c.inside_line.ensures

pub returns-in-Finding : goal.returns-in-Finding
returns-in-Finding c = sections_finding _ _ _ _ c.args.f _ _ c.in-Finding.is
