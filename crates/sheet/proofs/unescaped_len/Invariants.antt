use Prim.Native.Nat.{◌-◌, ◌≤◌}
use mathlib.Core.Path.{◌≡◌}
use lib.ListN.{length, drop}
use Rattle.rules.specs.Basic.{on_some}
use Rattle.rules.specs.Sheet.{unescape}
use Rattle.sheet.proofs.Texts.{length_from}
use Rattle.sheet.proofs.unescaped_len.Given as goal

abbrev pub invariant-loop-i : goal.invariant-loop-i
invariant-loop-i l = (l.n ≤ l.i) × (l.i ≤ length l.f) × (length_from l.n (unescape (drop l.i l.f)) ≡ on_some length (unescape l.f))

abbrev pub decreases-loop-i : goal.decreases-loop-i
decreases-loop-i l = length l.f - l.i
