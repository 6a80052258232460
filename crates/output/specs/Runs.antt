-- Bytes of a field that need no escape.
use Rattle.std.specs.Prelude.{ℕ, ◌-◌, ◌≤◌, ◌≡◌, Bool, true, not, ◌&&◌, List, [], ◌∷◌, eqb, ltb, length, take, drop}

-- past the CR and no backslash: a byte that is told at a glance to stand for itself
unfoldable pub is_plain : ℕ → Bool
is_plain c = ltb 13 c && not (eqb c 92)

-- past the LF, no CR and no backslash: a byte that stands for itself
unfoldable pub is_copied : ℕ → Bool
is_copied c = ltb 10 c && not (eqb c 13) && not (eqb c 92)

unfoldable pub all_of : (ℕ → Bool) → List ℕ → Bool
all_of p [] = true
all_of p (c ∷ f) = p c && all_of p f

-- the bytes of f from a place to r need no escape
pub record PlainTo (f : List ℕ) (at r : ℕ) : Type 0 where
  pub from : at ≤ r
  pub upto : r ≤ length f
  pub is : all_of is_copied (take (r - at) (drop at f)) ≡ true
