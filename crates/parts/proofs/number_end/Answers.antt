use Rattle.parts.proofs.Near.{ends_tab_is, ends_other_is}
use Rattle.parts.proofs.number_end.Goals as goal

pub returns-then-y-eq4294967257 : goal.returns-then-y-eq4294967257
returns-then-y-eq4294967257 c = ends_tab_is _ _ _ c.if-y-eq4294967257.true

pub returns : goal.returns
returns c = ends_other_is _ _ _ c.if-y-eq4294967257.false
