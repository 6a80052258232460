use Rattle.config_keys.proofs.Keys.{define_trimmed}
use Rattle.config_keys.proofs.define_value.Goals as goal

pub returns : goal.returns
returns c = define_trimmed c.text_outer_trimmed-w.ensures c.define_mode.ensures
