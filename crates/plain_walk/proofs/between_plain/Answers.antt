use Rattle.plain_walk.proofs.Becomes.{meta_within, meta_dropped, meta_kept, section_kept, start_told}
use Rattle.plain_walk.proofs.between_plain.Goals as goal

pub is_mode_line-requires : goal.is_mode_line-requires
is_mode_line-requires c = meta_within _ _ _ c.in-Meta.is c.requires

pub returns-then-is_mode_line : goal.returns-then-is_mode_line
returns-then-is_mode_line c = meta_dropped _ _ c.args.f _ _ c.in-Meta.is c.is_mode_line.ensures c.if-is_mode_line.true

pub returns-else-is_mode_line : goal.returns-else-is_mode_line
returns-else-is_mode_line c = meta_kept _ _ c.args.f _ _ c.in-Meta.is c.is_mode_line.ensures c.if-is_mode_line.false

pub returns-in-Section : goal.returns-in-Section
returns-in-Section c = section_kept _ _ c.args.f _ c.in-Section.is

pub returns-in-Start : goal.returns-in-Start
returns-in-Start c = start_told _ _ c.args.f _ c.in-Start.is c.start_plain.ensures
