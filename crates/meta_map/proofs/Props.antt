-- Being an index is a proposition, so that what the field of a map says, truncated, is said in full.
use Prim.Native.Nat.{ℕ}
use mathlib.Core.Path.{refl}
use mathlib.Core.List.{List, [], ◌∷◌}
use mathlib.Core.Logic.{∥∥₁_elim}
use Rattle.std.proofs.Props as below
use Rattle.std.specs.Coded.{coded_bool}
use denote.Struct.Props.{≡_prop}
use Rattle.rules.specs.Sheet.{Without, without_none, without_more}
use Rattle.meta_map.specs.Index.{Indexed}

without_prop : (b : ℕ) (s : List ℕ) → IsProp (Without b s)
without_prop b [] without_none without_none = refl
without_prop b (c ∷ s) (without_more q g) (without_more r h) = λ i. without_more (≡_prop coded_bool _ _ q r i) (without_prop b s g h i)

pub indexed_of : {sheet m : List ℕ} {n : ℕ} → ∥ Indexed sheet m n ∥₁ → Indexed sheet m n
indexed_of t = ∥∥₁_elim t (hlevel (below.props, without_prop)) (λ x. x)
