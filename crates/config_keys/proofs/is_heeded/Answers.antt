use Rattle.config_keys.proofs.Heeded.{heeded_off, heeded_mode, heeded_other}
use Rattle.config_keys.proofs.is_heeded.Goals as goal

pub returns-in-Define : goal.returns-in-Define
returns-in-Define c = heeded_mode _ c.if-flags-eq1.true c.key_of.ensures c.in-Define.is

pub returns-in_default : goal.returns-in_default
returns-in_default c = heeded_other _ c.if-flags-eq1.true c.key_of.ensures c.in_default.not-Define c.in_default.not-Duplicate

pub returns-else-flags-eq1 : goal.returns-else-flags-eq1
returns-else-flags-eq1 c = heeded_off c.if-flags-eq1.false
