-- The hash of a name.
use Rattle.std.specs.Prelude.{ℕ, ◌+◌, ◌*◌, ◌%◌, ◌<◌, ◌≡◌, List, [], ◌∷◌}

-- over its code points, below 1,024
unfoldable pub hash_from : ℕ → List ℕ → ℕ
hash_from h [] = h
hash_from h (c ∷ cs) = hash_from ((h * 31 + c) % 1024) cs

abbrev pub hash_of : List ℕ → ℕ
hash_of k = hash_from 0 k

pub record Hashed (k : List ℕ) (r : ℕ) : Type 0 where
  pub is : r ≡ hash_of k
  pub small : r < 1024
