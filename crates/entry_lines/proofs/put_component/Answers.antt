use Rattle.entry_lines.proofs.Own.{line_some, put_line_own}
use Rattle.entry_lines.proofs.put_component.Goals as goal

pub component_in-v-requires : goal.component_in-v-requires
component_in-v-requires c = (line_some _ _ c.requires.0, c.requires.1)

pub put_own-requires : goal.put_own-requires
put_own-requires c = c.component_in-v.ensures.fields _ c.requires.0

pub returns : goal.returns
returns c = put_line_own _ _ c.component_in-v.ensures c.requires.0 c.put_own.ensures
