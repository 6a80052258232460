use Rattle.content.specs.Contents.{kept_in}
use lib.ListN.{length}
use Rattle.units.specs.Lists.{units_from}
use Rattle.chains.proofs.Seeks.{Seeking}
use Rattle.unit_index.specs.Index.{bucket, names}
use Rattle.unit_index.proofs.find_named.Given as goal

abbrev pub invariant-loop-p : goal.invariant-loop-p
invariant-loop-p l = Seeking bucket (names l.units.lines.now) (length (units_from l.units.lines.now 0)) (kept_in l.name) l.p

abbrev pub decreases-loop-p : goal.decreases-loop-p
decreases-loop-p l = l.p
