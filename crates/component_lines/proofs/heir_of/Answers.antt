use Rattle.component_lines.proofs.Rows.{heir_alone, heir_lost, heir_found}
use Rattle.component_lines.proofs.heir_of.Goals as goal

pub returns-in-None : goal.returns-in-None
returns-in-None c = heir_alone _ _ _ c.in-None.is

pub returns-in-None-old : goal.returns-in-None-old
returns-in-None-old c = heir_lost _ _ c.in-Some.is _ c.in-None-old.is

pub returns-in-Some-old : goal.returns-in-Some-old
returns-in-Some-old c = heir_found _ _ c.in-Some.is _ _ c.in-Some-old.is c.referring_modifiers.ensures
