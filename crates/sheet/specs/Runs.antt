-- Runs of bytes without a byte, and without those at which a content's reader stops.
use Rattle.std.specs.Prelude.{ℕ, zero, suc, ◌+◌, ◌-◌, ◌≤◌, ◌<◌, ◌≡◌, Bool, true, false, ◌||◌, List, eqb, length, get_or}
use Rattle.rules.specs.Basic.{pick, tab, cr, backslash}

-- a tab ends a content, a backslash starts an escape, and a bare CR is ill-formed
unfoldable pub is_stop : ℕ → Bool
is_stop c = eqb c tab || eqb c backslash || eqb c cr

-- the test holds of none of the n bytes of s from `at` on
module _ (test : ℕ → Bool) (s : List ℕ) (at : ℕ) where
  unfoldable pub lacks : ℕ → Bool
  lacks zero = true
  lacks (suc n) = pick (test (get_or s (at + n) 0)) false (lacks n)

-- nor of the bytes of s from `at` to r; past the end r is `at`
pub record Lacking (test : ℕ → Bool) (s : List ℕ) (at r : ℕ) : Type 0 where
  pub from : at ≤ r
  pub inside : at ≤ length s → r ≤ length s
  pub past : length s < at → r ≡ at
  pub clean : lacks test s at (r - at) ≡ true
