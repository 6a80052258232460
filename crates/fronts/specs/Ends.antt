-- The last bytes of a field.
use Rattle.std.specs.Prelude.{ℕ, ◌≤◌, ◌<◌, ◌≡◌, false, List, [], ◌∷◌, length, get_or, drop}
use Rattle.rules.specs.Utf8.{later}

-- no byte that goes on with a character stands at r, or r is 0
pub record LastStart (s : List ℕ) (r : ℕ) : Type 0 where
  pub inside : r < length s
  pub starts : 0 < r → later (get_or s r 0) ≡ false

-- bytes that are blanks
pub data Blanks : List ℕ → Type 0 where
  no_blanks : Blanks []
  more_blanks : {q : List ℕ} → Blanks q → Blanks (32 ∷ q)

pub record BlankFrom (s : List ℕ) (r : ℕ) : Type 0 where
  pub most : r ≤ length s
  pub rest : Blanks (drop r s)
