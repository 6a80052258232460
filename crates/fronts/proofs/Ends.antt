-- The last bytes of a field.
use Prim.Native.Nat.{ℕ, suc, ◌-◌, ◌≤◌, ◌<◌}
use mathlib.Core.Path.{◌≡◌}
use mathlib.Core.List.{List}
use native.Mathlib.Omega.{arith}
use lib.ListN.{length, get_or, drop_of_length-le}
use lib.Seq.{drop-cons}
use Rattle.rules.proofs.Begins.{later_ascii}
use Rattle.fronts.specs.Ends.{LastStart, no_blanks, more_blanks, BlankFrom}
use Rattle.fronts.proofs.Seams.{later_high}

-- ---- the ways of `last_start`

module _ (s : List ℕ) (i : ℕ) (h : i < length s) where
  pub start_ascii : get_or s i 0 < 128 → LastStart s i
  start_ascii l = record { inside = h; starts = λ _. later_ascii (get_or s i 0) l }

  pub start_high : 191 < get_or s i 0 → LastStart s i
  start_high l = record { inside = h; starts = λ _. later_high (get_or s i 0) l }

pub start_none : (s : List ℕ) → 0 < length s → LastStart s 0
start_none s h = record { inside = h; starts = λ l. absurd (omega arith) }

-- ---- the turns of `blanks_end`

pub blanks_none : (s : List ℕ) → BlankFrom s (length s)
blanks_none s = record { most = omega arith; rest = let l : length s ≤ length s = omega arith in rw (drop_of_length-le s l) no_blanks }

pub blanks_more : {s : List ℕ} {i : ℕ} → BlankFrom s i → 0 < i → get_or s (i - 1) 0 ≡ 32 → BlankFrom s (i - 1)
blanks_more {s} {i} v h e =
    let z : suc (i - 1) ≡ i = omega arith in
    let l : i - 1 < length s = omega (arith, v.most) in
    record { most = omega (arith, v.most); rest = rw (drop-cons s (i - 1) 0 l, e, z) (more_blanks v.rest) }
