-- Sets of code points as ascending ranges, and foldings as ascending lines: the shapes of Unicode's files.
use Rattle.std.specs.Prelude.{ℕ, List, [], ◌∷◌, Bool, true, false, ◌&&◌, eqb, leb, ltb}
use Rattle.rules.specs.Basic.{pick}

-- a line `START..END`, both included
infixl 20 ◌to◌
pub data Range : Type 0 where
  ◌to◌ : ℕ → ℕ → Range

-- c lies in one of the ranges; they ascend, so none after one that starts above c has it
module _ (c : ℕ) where
  unfoldable pub member : List Range → Bool
  member [] = false
  member ((a to b) ∷ rs) = pick (ltb c a) false (pick (leb c b) true (member rs))

-- each range starts above the end of the one before, and ends at or above its start
unfoldable pub ascending : ℕ → List Range → Bool
ascending low [] = true
ascending low ((a to b) ∷ rs) = ltb low a && leb a b && ascending b rs

-- a line `CODE; STATUS; MAPPING`
infixl 20 ◌folds_to◌
pub data FoldLine : Type 0 where
  ◌folds_to◌ : ℕ → List ℕ → FoldLine

-- the mapping of the line with the key c, or c itself; keys ascend
module _ (c : ℕ) where
  unfoldable pub lookup : List FoldLine → List ℕ
  lookup [] = c ∷ []
  lookup ((k folds_to m) ∷ ls) = pick (ltb c k) (c ∷ []) (pick (eqb c k) m (lookup ls))

-- "The folding table is ascending"
unfoldable pub keys_ascend : ℕ → List FoldLine → Bool
keys_ascend low [] = true
keys_ascend low ((k folds_to m) ∷ ls) = ltb low k && keys_ascend k ls
