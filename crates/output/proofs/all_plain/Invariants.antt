use mathlib.Core.Path.{◌≡◌}
use mathlib.Core.Bool.{◌&&◌}
use lib.ListN.{drop}
use Rattle.output.specs.Runs.{is_plain, all_of}
use Rattle.output.proofs.all_plain.Given as goal

abbrev pub invariant-loop-c : goal.invariant-loop-c
invariant-loop-c l = (l.plain && all_of is_plain (drop l.c-index l.f)) ≡ all_of is_plain l.f
