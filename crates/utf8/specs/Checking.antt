-- Bytes that are ASCII.
use Rattle.std.specs.Prelude.{ℕ, zero, suc, ◌+◌, ◌-◌, ◌≤◌, ◌≡◌, Bool, true, false, List, leb, length, get_or}
use Rattle.rules.specs.Basic.{pick}

-- the n bytes of s from `at` on are ASCII
unfoldable pub ascii_for : List ℕ → ℕ → ℕ → Bool
ascii_for s at zero = true
ascii_for s at (suc n) = pick (leb 128 (get_or s (at + n) 0)) false (ascii_for s at n)

-- all bytes of s from `at` to r are
pub record AsciiTo (s : List ℕ) (at r : ℕ) : Type 0 where
  pub from : at ≤ r
  pub inside : r ≤ length s
  pub ascii : ascii_for s at (r - at) ≡ true
