use Prim.Native.Nat.{◌-◌}
use lib.ListN.{length}
use Rattle.unit_index.proofs.Adds.{Adding}
use Rattle.unit_index.proofs.add_lines.Given as goal

abbrev pub invariant-loop-u : goal.invariant-loop-u
invariant-loop-u l = Adding l.units l.index l.n l.at

abbrev pub decreases-loop-u : goal.decreases-loop-u
decreases-loop-u l = length l.units - l.at
