-- A path as a page has it.
use Rattle.std.specs.Prelude.{ℕ, ◌+◌, Bool, ◌&&◌, List, [], ◌∷◌, eqb, get_or}
use Rattle.rules.specs.Basic.{pick, blank, slash, backslash}
use Rattle.rules.specs.Text.{retain}

-- an escaped backslash stands at a place
unfoldable pub is_back : List ℕ → ℕ → Bool
is_back w at = eqb (get_or w at 0) backslash && eqb (get_or w (at + 1) 0) backslash

-- the bytes of a field: a backslash, which stands escaped, becomes a slash, and a blank after a blank goes;
-- `prev` is the byte before
unfoldable pub path_bytes : ℕ → List ℕ → List ℕ
path_bytes prev [] = []
path_bytes prev (b ∷ []) = retain prev (b ∷ [])
path_bytes prev (b ∷ d ∷ s) =
    pick (eqb b backslash && eqb d backslash) (slash ∷ path_bytes slash s)
    (pick (eqb b blank && eqb prev blank) (path_bytes b (d ∷ s)) (b ∷ path_bytes b (d ∷ s)))
