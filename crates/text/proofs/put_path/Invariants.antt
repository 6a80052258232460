use Prim.Native.Nat.{◌-◌}
use lib.ListN.{length, drop}
use Rattle.output.proofs.Puts.{Leads}
use Rattle.text.specs.Paths.{path_bytes}
use Rattle.text.proofs.put_path.Given as goal

abbrev pub invariant-loop-i : goal.invariant-loop-i
invariant-loop-i l = Leads (path_bytes 0 l.w) l.initial.out l.at (path_bytes l.prev (drop l.i l.w)) l.out l.n

abbrev pub decreases-loop-i : goal.decreases-loop-i
decreases-loop-i l = length l.w - l.i
