-- Places in an ascending list.
use Rattle.std.specs.Prelude.{ℕ, ◌≤◌, ◌<◌, List, [], ◌∷◌, get_or, length}
use Rattle.rules.specs.Ranges.{Range, ◌to◌}

-- the list never falls
abbrev pub Ascending : List ℕ → Type 0
Ascending xs = (p q : ℕ) → p ≤ q → q < length xs → get_or xs p 0 ≤ get_or xs q 0

-- r is the place of the first element that is at least c
pub record Place (xs : List ℕ) (c r : ℕ) : Type 0 where
  pub fits : r ≤ length xs
  pub below : (k : ℕ) → k < r → get_or xs k 0 < c
  pub above : (k : ℕ) → r ≤ k → k < length xs → c ≤ get_or xs k 0

-- the ranges with these starts and these ends
unfoldable pub zipped : List ℕ → List ℕ → List Range
zipped [] bs = []
zipped (a ∷ xs) [] = []
zipped (a ∷ xs) (b ∷ bs) = (a to b) ∷ zipped xs bs
