use mathlib.Core.Path.{◌≡◌}
use lib.ListN.{length}
use Rattle.rules.specs.Basic.{eq_list}
use Rattle.rules.specs.Unicode.{same_name}
use Rattle.content.specs.Contents.{kept_in}
use Rattle.text.specs.Names.{rest}
use Rattle.text.proofs.same_rest.Given as goal

abbrev pub invariant-loop-x : goal.invariant-loop-x
invariant-loop-x l = eq_list (rest l.a l.i) (rest l.b l.j) ≡ same_name (kept_in l.a) (kept_in l.b)

abbrev pub decreases-loop-x : goal.decreases-loop-x
decreases-loop-x l = length (rest l.a l.i)
