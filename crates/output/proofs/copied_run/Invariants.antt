use Prim.Native.Nat.{◌≤◌}
use mathlib.Core.Path.{◌≡◌}
use mathlib.Core.Bool.{true}
use lib.ListN.{take}
use Rattle.output.specs.Runs.{is_copied, all_of}
use Rattle.output.proofs.copied_run.Given as goal

abbrev pub invariant-loop-j : goal.invariant-loop-j
invariant-loop-j l = (l.k ≤ 32) × (all_of is_copied (take l.k (take l.j l.w)) ≡ true)
