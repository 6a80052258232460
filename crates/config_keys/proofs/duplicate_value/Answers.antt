use Rattle.config_keys.proofs.Keys.{duplicate_trimmed}
use Rattle.config_keys.proofs.duplicate_value.Goals as goal

pub returns : goal.returns
returns c = duplicate_trimmed c.text_outer_trimmed-w.ensures c.duplicate_mode.ensures
