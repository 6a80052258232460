-- What a line's writer that is handed on does with the rest of the output that it is lent.
use Rattle.std.specs.Prelude.{ℕ, ◌+◌, ◌≤◌, List, length, drop}
use Rattle.std.specs.Borrow.{MutBor}
use Rattle.std.specs.Fn.{Once, FnOnceTakesAtMut, FnOnceReturnsAtMut}
use Rattle.output.specs.Put.{Put}

module _ {F : Type 0} (g : Once F (MutBor (List ℕ) × Unit {0}) (ℕ × (MutBor (List ℕ) × Unit {0}))) (f : F) where
  -- f may be lent the rest o of an output, and answers at most one more than its length
  pub record Writer (o : List ℕ) : Type 0 where
    pub takes : FnOnceTakesAtMut g f o
    pub fits : (r : ℕ) (o' : List ℕ) → FnOnceReturnsAtMut g f o r o' → r ≤ length o + 1

  -- what f writes at the front of the rest stands at the position
  pub record Written (o₀ : List ℕ) (at : ℕ) (o : List ℕ) (r : ℕ) : Type 0 where
    pub put : {w : List ℕ} → ((n : ℕ) (o' : List ℕ) → FnOnceReturnsAtMut g f (drop at o₀) n o' → Put w (drop at o₀) 0 o' n) → Put w o₀ at o r
