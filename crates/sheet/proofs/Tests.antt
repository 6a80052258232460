-- Comparing bytes.
use Prim.Native.Nat.{ℕ, suc, ◌+◌, ◌≤◌, ◌<◌}
use mathlib.Core.Path.{◌≡◌, refl, ap}
use mathlib.Core.Bool.{Bool, true, false}
use mathlib.Core.List.{List, [], ◌∷◌}
use native.Mathlib.Numerals.{add-one}
use native.Mathlib.Omega.{arith}
use borrow.Author.Tests.{eq-eqb, ne_eqb}
use lib.Dec.{eqb}
use lib.ListN.{length, get_or, drop, drop_of_length-le}
use lib.Seq.{drop-cons}
use Rattle.rules.specs.Basic.{pick, eq_list}

pub eq_length : (a b : List ℕ) → (length a ≡ length b → ⊥) → false ≡ eq_list a b
unfolding eq_list
eq_length [] [] h = absurd (h refl)
eq_length [] (y ∷ b) h = refl
eq_length (x ∷ a) [] h = refl
eq_length (x ∷ a) (y ∷ b) h = by (eqb x y) (eq_length a b (λ e. h (ap suc e)))
  where
    by : (t : Bool) → false ≡ eq_list a b → false ≡ pick t (eq_list a b) false
    by true ih = ih
    by false ih = refl

module _ (a b : List ℕ) (i : ℕ) {r : Bool} (l : length a ≡ length b) (e : eq_list (drop i a) (drop i b) ≡ r) where
  pub eq_same : i < length a → get_or a i 0 ≡ get_or b i 0 → eq_list (drop (i + 1) a) (drop (i + 1) b) ≡ r
  unfolding eq_list
  eq_same h q = let k : i < length b = omega arith in rw add-one (simp (drop-cons a i 0 h, drop-cons b i 0 k, eq-eqb _ _ q) at e)

  pub eq_other : i < length a → (get_or a i 0 ≡ get_or b i 0 → ⊥) → false ≡ r
  unfolding eq_list
  eq_other h q = let k : i < length b = omega arith in simp (drop-cons a i 0 h, drop-cons b i 0 k, ne_eqb _ _ q) at e

  pub eq_end : length a ≤ i → true ≡ r
  unfolding eq_list
  eq_end h = let k : length b ≤ i = omega arith in simp (drop_of_length-le a h, drop_of_length-le b k) at e
