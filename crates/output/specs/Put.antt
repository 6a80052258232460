-- What a writer of a text at a position leaves in a buffer, and the position after it.
use Rattle.std.specs.Prelude.{ℕ, ◌+◌, ◌≡◌, List, [], ◌∷◌, ◌++◌, leb, length, take, drop}
use Rattle.rules.specs.Basic.{pick, tab}
use Rattle.rules.specs.Sheet.{escape}

-- w written over the front of o, as far as o goes
unfoldable pub over : List ℕ → List ℕ → List ℕ
over [] o = o
over (x ∷ w) [] = []
over (x ∷ w) (y ∷ o) = x ∷ over w o

-- w written over o from `at` on, as far as o goes
unfoldable pub over_at : ℕ → List ℕ → List ℕ → List ℕ
over_at at w o = take at o ++ over w (drop at o)

-- the position after k bytes from `at` on in a buffer of m bytes: one past its length where they do not fit
unfoldable pub after : ℕ → ℕ → ℕ → ℕ
after at k m = pick (leb (at + k) m) (at + k) (m + 1)

-- the text w, written at a position of a buffer that held o₀: o is what it holds then, and r the next position
pub record Put (w o₀ : List ℕ) (at : ℕ) (o : List ℕ) (r : ℕ) : Type 0 where
  pub bytes : o ≡ over_at at w o₀
  pub next : r ≡ after at (length w) (length o₀)

-- the fields of a page line after its first: each is escaped and stands after a tab
unfoldable pub tabbed : List (List ℕ) → List ℕ
tabbed [] = []
tabbed (f ∷ fs) = tab ∷ (escape f ++ tabbed fs)
