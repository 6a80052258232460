use Prim.Native.Nat.{◌-◌}
use lib.ListN.{length}
use Rattle.rules.specs.Utf8.{chars}
use Rattle.content.specs.Contents.{kept_in}
use Rattle.content.proofs.Compare.{Comparing}
use Rattle.content.proofs.same_content.Given as goal

abbrev pub invariant-loop-i : goal.invariant-loop-i
invariant-loop-i l = Comparing kept_in chars l.f l.w l.i l.j

abbrev pub decreases-loop-i : goal.decreases-loop-i
decreases-loop-i l = length l.f - l.i
