-- Single blanks.
use Rattle.std.specs.Prelude.{ℕ, zero, suc, ◌+◌, ◌≤◌, ◌<◌, ◌≡◌, Bool, true, false, ◌&&◌, List, eqb, length, get_or}
use Rattle.rules.specs.Basic.{pick, blank}
use Rattle.sheet.specs.Runs.{Lacking}

-- after none of the n bytes of w from `at` on, the next one goes: they are not both blanks
unfoldable pub stay : List ℕ → ℕ → ℕ → Bool
stay w at zero = true
stay w at (suc n) = pick (eqb (get_or w (at + n + 1) 0) blank && eqb (get_or w (at + n) 0) blank) false (stay w at n)

-- r is the place of the first blank of w from `at` on, or the end
pub record NextBlank (w : List ℕ) (at r : ℕ) : Type 0 where
  pub before : Lacking (eqb blank) w at r
  pub inside : r ≤ length w
  pub here : r < length w → get_or w r 0 ≡ blank
