-- Where a line ends and where a field stands.
use Rattle.std.specs.Prelude.{ℕ, ◌+◌, ◌-◌, ◌≤◌, ◌<◌, ◌≡◌, List, [], leb, length, get_or, take, drop, None, Option, Some}
use Rattle.rules.specs.Basic.{pick}
use Rattle.rules.specs.Sheet.{Lines, last, more, lines, fields_of}

-- the lines from `at` on, where the first of them ends as r says
unfoldable pub lines_from : List ℕ → ℕ → Option ℕ → Lines
lines_from s at (Some e) = more (take (e - at) (drop at s)) (lines (drop (e + 1) s))
lines_from s at None = last (drop at s)

-- what `line_end` answers at a position of s
pub record LineAt (s : List ℕ) (at : ℕ) (r : Option ℕ) : Type 0 where
  pub is : lines_from s at r ≡ lines (drop at s)
  pub inside : (e : ℕ) → r ≡ Some e → (at ≤ e) × (e < length s)

-- the fields of a line from the one on that starts at `at`; none where that is past the line
unfoldable pub fields_from : List ℕ → ℕ → List (List ℕ)
fields_from line at = pick (leb at (length line)) (fields_of (drop at line)) []

-- the first of them
unfoldable pub field_at : List ℕ → ℕ → List ℕ
field_at line at = get_or (fields_from line at) 0 []
