use Rattle.model.proofs.Searches.{section_zero, section_past, section_back, section_ahead}
use Rattle.model.proofs.section_target.Goals as goal

pub returns-then-v-eq0 : goal.returns-then-v-eq0
returns-then-v-eq0 c = section_zero _ _ _ c.if-v-eq0.true

pub returns-then-sections-v : goal.returns-then-sections-v
returns-then-sections-v c = section_past _ _ _ c.if-sections-v.true

pub returns-then-relative : goal.returns-then-relative
returns-then-relative c = section_back _ _ _ c.if-v-eq0.false c.if-sections-v.false c.if-relative.true

pub returns : goal.returns
returns c = section_ahead _ _ _ c.if-v-eq0.false c.if-sections-v.false c.if-relative.false
