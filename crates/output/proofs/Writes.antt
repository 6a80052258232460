-- A line's writer that puts a text is one that may be handed on.
use Prim.Native.Nat.{ℕ}
use mathlib.Core.List.{List}
use Rattle.std.specs.Borrow.{MutBor}
use Rattle.std.specs.Fn.{Once, FnOnceTakesAtMut, FnOnceReturnsAtMut}
use Rattle.output.specs.Put.{Put}
use Rattle.output.specs.Writes.{Writer}
use Rattle.output.proofs.Puts.{put_most}

module _ {F : Type 0} {g : Once F (MutBor (List ℕ) × Unit {0}) (ℕ × (MutBor (List ℕ) × Unit {0}))} {f : F} where
  pub writer : {o : List ℕ} (w : List ℕ) → FnOnceTakesAtMut g f o → ((n : ℕ) (o' : List ℕ) → FnOnceReturnsAtMut g f o n o' → Put w o 0 o' n) → Writer g f o
  writer w t p = record { takes = t; fits = λ n o' e. put_most (p n o' e) }
