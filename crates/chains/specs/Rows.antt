-- Rows of keys, and the chains of those with one hash.
use Rattle.std.specs.Prelude.{ℕ, zero, suc, List, eqb, Option, None, Some}
use Rattle.rules.specs.Basic.{pick, eq_list}

module _ (keys : ℕ → List ℕ) where
  -- the row of a key among the first
  unfoldable pub find_in : List ℕ → ℕ → Option ℕ
  find_in k zero = None
  find_in k (suc i) = pick (eq_list k (keys i)) (Some i) (find_in k i)

module _ (hash : List ℕ → ℕ) (keys : ℕ → List ℕ) where
  -- one more than the newest of the first rows whose key has a hash, or 0
  unfoldable pub head_in : ℕ → ℕ → ℕ
  head_in b zero = 0
  head_in b (suc i) = pick (eqb (hash (keys i)) b) (suc i) (head_in b i)
