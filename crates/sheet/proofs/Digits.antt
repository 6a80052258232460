-- What one turn over digits does to the number that is read; r is the answer on the whole.
use Prim.Native.Nat.{ℕ, suc, ◌+◌, ◌-◌, ◌*◌, ◌≤◌, ◌<◌}
use mathlib.Core.Path.{◌≡◌, refl, sym, ◌∙◌}
use mathlib.Core.Bool.{Bool, true, false, and-false}
use mathlib.Core.Logic.{◌⊎◌, inl, inr}
use Rattle.std.specs.Prelude.{Option, None, Some}
use mathlib.Core.List.{List, [], ◌∷◌}
use native.Mathlib.Numerals.{add-one}
use native.Mathlib.Omega.{arith}
use borrow.Author.Tests.{eq-eqb, ne_eqb, le-leb, lt-leb}
use lib.ListN.{length, get_or, take, drop, drop_of_length-le}
use lib.Seq.{drop-cons, take-length}
use Rattle.rules.specs.Basic.{pick, is_digit, on_some}
use Rattle.rules.specs.Sheet.{digits_from, at_most, only_zero, number_up_to, signed_as, signed_of}
use Rattle.sheet.specs.declared.Signed.TheVariants.{Plus, Minus}
use Rattle.sheet.specs.Numbers.{signed_in}

-- the ways out before the loop, and the way in
pub empty : (m : ℕ) (s : List ℕ) → length s ≡ 0 → None ≡ number_up_to m s
unfolding number_up_to
empty m [] h = refl
empty m (x ∷ s) h = absurd (omega arith)

pub zero_alone : (m : ℕ) (s : List ℕ) → get_or s 0 0 ≡ 48 → length s ≡ 1 → Some 0 ≡ number_up_to m s
unfolding number_up_to only_zero
zero_alone m [] q h = absurd (omega arith)
zero_alone m (x ∷ []) q h = simp (eq-eqb _ _ q)
zero_alone m (x ∷ y ∷ s) q h = absurd (omega arith)

pub zero_leads : (m : ℕ) (s : List ℕ) → get_or s 0 0 ≡ 48 → (length s ≡ 1 → ⊥) → None ≡ number_up_to m s
unfolding number_up_to only_zero
zero_leads m [] q h = refl
zero_leads m (x ∷ []) q h = absurd (h refl)
zero_leads m (x ∷ y ∷ s) q h = simp (eq-eqb _ _ q)

pub digits_start : (m : ℕ) (s : List ℕ) → (length s ≡ 0 → ⊥) → (get_or s 0 0 ≡ 48 → ⊥) → at_most m (digits_from 0 s) ≡ number_up_to m s
unfolding number_up_to
digits_start m [] h q = absurd (h refl)
digits_start m (x ∷ s) h q = simp (ne_eqb _ _ q)

-- a number that is too large stays so
too_large : (m n : ℕ) (xs : List ℕ) → m < n → at_most m (digits_from n xs) ≡ None
unfolding digits_from at_most
too_large m n [] h = simp (lt-leb _ _ h)
too_large m n (x ∷ xs) h = by (is_digit x) (too_large m (n * 10 + (x - 48)) xs (omega arith))
  where
    by : (b : Bool) → at_most m (digits_from (n * 10 + (x - 48)) xs) ≡ None → at_most m (pick b (digits_from (n * 10 + (x - 48)) xs) None) ≡ None
    by true ih = ih
    by false ih = refl

module _ (m : ℕ) (s : List ℕ) (acc i : ℕ) {r : Option ℕ} (e : at_most m (digits_from acc (drop i s)) ≡ r) where
  pub digit_other : i < length s → (get_or s i 0 < 48) ⊎ (57 < get_or s i 0) → None ≡ r
  unfolding digits_from at_most
  digit_other h (inl q) = simp (drop-cons s i 0 h, lt-leb _ _ q) at e
  digit_other h (inr q) = simp (drop-cons s i 0 h, lt-leb _ _ q, and-false) at e

  pub digit : i < length s → 48 ≤ get_or s i 0 → get_or s i 0 ≤ 57 → at_most m (digits_from (acc * 10 + (get_or s i 0 - 48)) (drop (i + 1) s)) ≡ r
  unfolding digits_from
  digit h p q = simp add-one (simp (drop-cons s i 0 h, le-leb _ _ p, le-leb _ _ q) at e)

  pub digit_large : i < length s → 48 ≤ get_or s i 0 → get_or s i 0 ≤ 57 → m < acc * 10 + (get_or s i 0 - 48) → None ≡ r
  digit_large h p q l = sym (too_large m _ (drop (i + 1) s) l) ∙ digit h p q

  pub digits_end : length s ≤ i → acc ≤ m → Some acc ≡ r
  unfolding digits_from at_most
  digits_end h p = simp (drop_of_length-le s h, le-leb _ _ p) at e

-- ---- with a sign
pub signed_none : (s : List ℕ) → length s ≡ 0 → on_some signed_in None ≡ signed_of s
unfolding on_some signed_of
signed_none [] h = refl
signed_none (x ∷ s) h = absurd (omega arith)

signed_minus : (s : List ℕ) → (length s ≡ 0 → ⊥) → get_or s 0 0 ≡ 45 → signed_of s ≡ signed_as true (number_up_to 32768 (take (length s - 1) (drop 1 s)))
unfolding signed_of
signed_minus [] h q = absurd (h refl)
signed_minus (x ∷ s) h q = let e : suc (length s) - 1 ≡ length s = omega arith in simp (eq-eqb _ _ q, e, take-length)

signed_plus : (s : List ℕ) → (length s ≡ 0 → ⊥) → (get_or s 0 0 ≡ 45 → ⊥) → signed_of s ≡ signed_as false (number_up_to 32767 s)
unfolding signed_of
signed_plus [] h q = absurd (h refl)
signed_plus (x ∷ s) h q = simp (ne_eqb _ _ q)

-- o is the number that stands after the sign, or the whole field's
module _ (s : List ℕ) (h : length s ≡ 0 → ⊥) (q : get_or s 0 0 ≡ 45) {o : Option ℕ} (p : o ≡ number_up_to 32768 (take (length s - 1) (drop 1 s))) where
  pub minus_bad : o ≡ None → on_some signed_in None ≡ signed_of s
  unfolding on_some signed_as
  minus_bad e = rw (signed_minus s h q, ← p, e)

  pub minus_zero : {n : ℕ} → o ≡ Some n → n ≡ 0 → on_some signed_in None ≡ signed_of s
  unfolding on_some signed_as
  minus_zero {n} e z = rw (signed_minus s h q, ← p, e) (simp (eq-eqb n 0 z))

  pub minus_is : {n : ℕ} → o ≡ Some n → (n ≡ 0 → ⊥) → on_some signed_in (Some (Minus n)) ≡ signed_of s
  unfolding on_some signed_in signed_as
  minus_is {n} e z = rw (signed_minus s h q, ← p, e) (simp (ne_eqb n 0 z))

module _ (s : List ℕ) (h : length s ≡ 0 → ⊥) (q : get_or s 0 0 ≡ 45 → ⊥) {o : Option ℕ} (p : o ≡ number_up_to 32767 s) where
  pub plus_bad : o ≡ None → on_some signed_in None ≡ signed_of s
  unfolding on_some signed_as
  plus_bad e = rw (signed_plus s h q, ← p, e)

  pub plus_is : {n : ℕ} → o ≡ Some n → on_some signed_in (Some (Plus n)) ≡ signed_of s
  unfolding on_some signed_in signed_as
  plus_is e = rw (signed_plus s h q, ← p, e)
