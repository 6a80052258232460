use Rattle.component_lines.proofs.Earlier.{kind_ready, old_none, old_read}
use Rattle.component_lines.proofs.old_of.Goals as goal

pub row-r-requires : goal.row-r-requires
row-r-requires c = kind_ready _ c.in-Some.is c.args.memory.now.sound c.requires

pub returns-in-None : goal.returns-in-None
returns-in-None c = old_none _ _ _ c.in-None.is

pub returns-in-Some : goal.returns-in-Some
returns-in-Some c = old_read _ _ _ _ c.in-Some.is c.row-r.ensures c.modifiers_of-m.ensures
