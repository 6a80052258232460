-- What one turn over digits does to the number that is read; r is the answer on the whole.
use Prim.Native.Nat.{ℕ, zero, suc, ◌+◌, ◌-◌, ◌*◌, ◌≤◌, ◌<◌}
use mathlib.Core.Path.{◌≡◌, refl}
use mathlib.Core.Bool.{and-false}
use mathlib.Core.List.{List}
use Rattle.std.specs.Prelude.{Option, None, Some}
use native.Mathlib.Numerals.{add-one}
use native.Mathlib.Omega.{arith}
use borrow.Author.Tests.{eq-eqb, ne_eqb, le-leb, lt-leb, lt-ltb, le-ltb}
use lib.ListN.{length, get_or, drop, drop_of_length-le}
use lib.Seq.{drop-cons}
use Rattle.stored_cases.specs.declared.Number.{Number}
use Rattle.stored_cases.specs.Cases.{number_from, number_at}

-- ---- so many digits make a number below a power of ten
unfoldable pub ten_to : ℕ → ℕ
ten_to zero = 1
ten_to (suc k) = ten_to k * 10

pub no_digits : 0 < ten_to 0
unfolding ten_to
no_digits = omega arith

pub one_digit_more : (k n b : ℕ) → n < ten_to k → b ≤ 57 → n * 10 + (b - 48) < ten_to (k + 1)
unfolding ten_to
one_digit_more k n b h l = rw add-one (omega arith)

pub nine_digits : (k n : ℕ) → n < ten_to k → k < 9 → n < 100000000
unfolding ten_to
nine_digits zero n h l = omega arith
nine_digits (suc zero) n h l = omega arith
nine_digits (suc (suc zero)) n h l = omega arith
nine_digits (suc (suc (suc zero))) n h l = omega arith
nine_digits (suc (suc (suc (suc zero)))) n h l = omega arith
nine_digits (suc (suc (suc (suc (suc zero))))) n h l = omega arith
nine_digits (suc (suc (suc (suc (suc (suc zero)))))) n h l = omega arith
nine_digits (suc (suc (suc (suc (suc (suc (suc zero))))))) n h l = omega arith
nine_digits (suc (suc (suc (suc (suc (suc (suc (suc zero)))))))) n h l = omega arith
nine_digits (suc (suc (suc (suc (suc (suc (suc (suc (suc k))))))))) n h l = absurd (omega arith)

-- ---- one turn
pub number_starts : (s : List ℕ) (at end : ℕ) → number_from end 0 0 at (drop at s) ≡ number_at s at end
unfolding number_at
number_starts s at end = refl

module _ (end : ℕ) (s : List ℕ) (n count i : ℕ) {r : Option Number} (e : number_from end n count i (drop i s) ≡ r) where
  pub file_ends : length s ≤ i → None ≡ r
  unfolding number_from
  file_ends h = simp (drop_of_length-le s h) at e

  pub no_digit : i < length s → get_or s i 0 ≡ end → count ≡ 0 → None ≡ r
  unfolding number_from
  no_digit h p q = simp (drop-cons s i 0 h, eq-eqb (get_or s i 0) end p, eq-eqb count 0 q) at e

  pub number_ends : i < length s → get_or s i 0 ≡ end → (count ≡ 0 → ⊥) → Some (record { value = n; next = i + 1 }) ≡ r
  unfolding number_from
  number_ends h p q = simp (drop-cons s i 0 h, eq-eqb (get_or s i 0) end p, ne_eqb count 0 q) at e

  pub byte_below : i < length s → (get_or s i 0 ≡ end → ⊥) → get_or s i 0 < 48 → None ≡ r
  unfolding number_from
  byte_below h p q = simp (drop-cons s i 0 h, ne_eqb (get_or s i 0) end p, lt-leb 48 (get_or s i 0) q) at e

  pub byte_above : i < length s → (get_or s i 0 ≡ end → ⊥) → 57 < get_or s i 0 → None ≡ r
  unfolding number_from
  byte_above h p q = simp (drop-cons s i 0 h, ne_eqb (get_or s i 0) end p, lt-leb (get_or s i 0) 57 q, and-false) at e

  pub tenth_digit : i < length s → (get_or s i 0 ≡ end → ⊥) → 9 ≤ count → None ≡ r
  unfolding number_from
  tenth_digit h p q = simp (drop-cons s i 0 h, ne_eqb (get_or s i 0) end p, le-ltb count 9 q, and-false) at e

  pub digit : i < length s → (get_or s i 0 ≡ end → ⊥) → 48 ≤ get_or s i 0 → get_or s i 0 ≤ 57 → count < 9 → number_from end (n * 10 + (get_or s i 0 - 48)) (count + 1) (i + 1) (drop (i + 1) s) ≡ r
  unfolding number_from
  digit h p l u q = simp add-one (simp (drop-cons s i 0 h, ne_eqb (get_or s i 0) end p, le-leb 48 (get_or s i 0) l, le-leb (get_or s i 0) 57 u, lt-ltb count 9 q, add-one) at e)
