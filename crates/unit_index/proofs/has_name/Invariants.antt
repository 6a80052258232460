use Rattle.rules.specs.Utf8.{chars}
use Rattle.chains.proofs.Seeks.{Seeking}
use Rattle.unit_index.specs.Index.{bucket, names}
use Rattle.unit_index.proofs.has_name.Given as goal

abbrev pub invariant-loop-p : goal.invariant-loop-p
invariant-loop-p l = Seeking bucket (names l.units) l.n (chars l.name) l.p

abbrev pub decreases-loop-p : goal.decreases-loop-p
decreases-loop-p l = l.p
