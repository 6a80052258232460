use Rattle.page_parts.proofs.Arms.{named_none, named_some, named_field}
use Rattle.following.specs.Drawn.{section_line}
use Rattle.page_parts.proofs.named_line.Goals as goal

pub section_line-requires : goal.section_line-requires
section_line-requires c = named_field _ _ c.in-Some.is c.requires

pub returns-in-None : goal.returns-in-None
returns-in-None c = named_none _ c.in-None.is

pub returns-in-Some : goal.returns-in-Some
unfolding section_line
returns-in-Some c = named_some _ _ c.in-Some.is c.section_line.ensures
