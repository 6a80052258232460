-- Names whose fronts are compared byte by byte.
use Rattle.std.specs.Prelude.{ℕ, ◌+◌, ◌*◌, ◌≤◌, ◌<◌, ◌≡◌, Bool, List, length, get_or, take, drop}
use Rattle.rules.specs.Unicode.{same_name}
use Rattle.content.specs.Contents.{kept_in}

-- the names have the same folding from these places on
unfoldable pub same_at : List ℕ → ℕ → List ℕ → ℕ → Bool
same_at a i b j = same_name (kept_in (drop i a)) (kept_in (drop j b))

-- four bytes, read as one number
pub record WordAt (s : List ℕ) (i r : ℕ) : Type 0 where
  pub is : r ≡ (get_or s i 0 + get_or s (i + 1) 0 * 256) + (get_or s (i + 2) 0 + get_or s (i + 3) 0 * 256) * 65536
  pub byte0 : get_or s i 0 < 256
  pub byte1 : get_or s (i + 1) 0 < 256
  pub byte2 : get_or s (i + 2) 0 < 256
  pub byte3 : get_or s (i + 3) 0 < 256

-- the first r bytes are the same
pub record Common (a b : List ℕ) (r : ℕ) : Type 0 where
  pub left : r ≤ length a
  pub right : r ≤ length b
  pub same : take r a ≡ take r b

-- after r bytes of each the names have the same answer as from their fronts
pub record Seam (a b : List ℕ) (r : ℕ) : Type 0 where
  pub left : r ≤ length a
  pub right : r ≤ length b
  pub is : same_at a r b r ≡ same_name (kept_in a) (kept_in b)
