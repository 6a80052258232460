-- Laws of writing over the front of a buffer.
use Prim.Native.Nat.{ℕ, suc, ◌≤◌}
use mathlib.Core.Path.{◌≡◌, refl, ap}
use mathlib.Core.List.{List, [], ◌∷◌, ◌++◌}
use native.Mathlib.Nat.{not-suc-le-zero, le_of_suc-le-suc}
use lib.ListN.{length, drop}
use Rattle.output.specs.Put.{over}

pub over_length : (w o : List ℕ) → length (over w o) ≡ length o
unfolding over
over_length [] o = refl
over_length (x ∷ w) [] = refl
over_length (x ∷ w) (y ∷ o) = ap suc (over_length w o)

pub over_none : (w : List ℕ) → over w [] ≡ []
unfolding over
over_none [] = refl
over_none (x ∷ w) = refl

-- a text that fits is in front of what was there
pub over_fits : (w o : List ℕ) → length w ≤ length o → over w o ≡ w ++ drop (length w) o
unfolding over
over_fits [] o h = refl
over_fits (x ∷ w) [] h = absurd (not-suc-le-zero h)
over_fits (x ∷ w) (y ∷ o) h = ap (λ (l : List ℕ). x ∷ l) (over_fits w o (le_of_suc-le-suc h))

-- a text that does not fit hides what follows it
pub over_full : (v w o : List ℕ) → length o ≤ length v → over (v ++ w) o ≡ over v o
unfolding over
over_full [] [] o h = refl
over_full [] (x ∷ w) [] h = refl
over_full [] (x ∷ w) (y ∷ o) h = absurd (not-suc-le-zero h)
over_full (x ∷ v) w [] h = refl
over_full (x ∷ v) w (y ∷ o) h = ap (λ (l : List ℕ). x ∷ l) (over_full v w o (le_of_suc-le-suc h))

pub over_append : (v w o : List ℕ) → length v ≤ length o → over (v ++ w) o ≡ v ++ over w (drop (length v) o)
unfolding over
over_append [] w o h = refl
over_append (x ∷ v) w [] h = absurd (not-suc-le-zero h)
over_append (x ∷ v) w (y ∷ o) h = ap (λ (l : List ℕ). x ∷ l) (over_append v w o (le_of_suc-le-suc h))
