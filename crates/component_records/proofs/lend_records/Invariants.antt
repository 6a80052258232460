use mathlib.Core.Path.{◌≡◌}
use Rattle.component_records.proofs.Records.{filled}
use Rattle.component_records.proofs.lend_records.Given as goal

abbrev pub invariant-loop-i : goal.invariant-loop-i
invariant-loop-i l = l.all ≡ filled l.words l.from l.count l.initial.all l.i
