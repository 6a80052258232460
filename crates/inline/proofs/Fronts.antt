-- The longest front of a text that passes a test, and what follows it.
use Prim.Native.Nat.{ℕ}
use mathlib.Core.Path.{◌≡◌, refl, sym, ap, ◌∙◌}
use mathlib.Core.List.{List, [], ◌∷◌, ◌++◌}
use mathlib.Core.Bool.{Bool, true, false, ◌||◌, not}
use native.Mathlib.Omega.{arith}
use lib.Dec.{eqb}
use borrow.Author.Tests.{eqb-true, ne_eqb}
use Rattle.rules.specs.Basic.{pick, is_digit, point}
use Rattle.rules.specs.Ranges.{member}
use Rattle.rules.specs.WhiteSpace.{white_space}
use Rattle.rules.specs.Unicode.{is_white_space}
use Rattle.rules.specs.Inline.{front, behind, is_digit_or_point}
use Rattle.rules.proofs.Basics.{within_from, within_to, within_high}
use Rattle.letters.proofs.Ascii.{ascii_white_lem}
use Rattle.inline.specs.Scans.{is_not_white}

module _ (p : ℕ → Bool) where
  -- the two parts are the text
  pub front_behind : (x : List ℕ) → front p x ++ behind p x ≡ x
  unfolding front behind
  front_behind [] = refl
  front_behind (c ∷ x) = by (p c) (front_behind x)
    where
      by : (t : Bool) → front p x ++ behind p x ≡ x → pick t (c ∷ front p x) [] ++ pick t (behind p x) (c ∷ x) ≡ c ∷ x
      by true ih = ap (λ (l : List ℕ). c ∷ l) ih
      by false ih = refl

  pub front_yes : (c : ℕ) (x : List ℕ) → p c ≡ true → front p (c ∷ x) ≡ c ∷ front p x
  unfolding front
  front_yes c x e = rw e

  pub behind_yes : (c : ℕ) (x : List ℕ) → p c ≡ true → behind p (c ∷ x) ≡ behind p x
  unfolding behind
  behind_yes c x e = rw e

  pub front_no : (c : ℕ) (x : List ℕ) → p c ≡ false → front p (c ∷ x) ≡ []
  unfolding front
  front_no c x e = rw e

  pub behind_no : (c : ℕ) (x : List ℕ) → p c ≡ false → behind p (c ∷ x) ≡ c ∷ x
  unfolding behind
  behind_no c x e = rw e

  pub front_none : front p [] ≡ []
  unfolding front
  front_none = refl

  pub behind_none : behind p [] ≡ []
  unfolding behind
  behind_none = refl

  -- what follows starts with what the test refuses
  pub behind_head : (x : List ℕ) (c : ℕ) (y : List ℕ) → behind p x ≡ c ∷ y → p c ≡ false
  unfolding behind
  behind_head [] c y e = absurd (let z : ◌≡◌ {A = ℕ} 0 1 = cc in omega arith)
  behind_head (d ∷ x) c y e = by (p d) refl (behind_head x c y) e
    where
      by : (t : Bool) → p d ≡ t → (behind p x ≡ c ∷ y → p c ≡ false) → pick t (behind p x) (d ∷ x) ≡ c ∷ y → p c ≡ false
      by true e ih q = ih q
      by false e ih q = let k : d ≡ c = cc in rw (← k) e

-- one test within another
module _ (p q : ℕ → Bool) (inner : (c : ℕ) → p c ≡ true → q c ≡ true) where
  pub front_within : (x : List ℕ) → front q x ≡ front p x ++ front q (behind p x)
  unfolding front behind
  front_within [] = refl
  front_within (c ∷ x) = by (p c) refl (front_within x)
    where
      by : (t : Bool) → p c ≡ t → front q x ≡ front p x ++ front q (behind p x)
          → pick (q c) (c ∷ front q x) [] ≡ pick t (c ∷ front p x) [] ++ front q (pick t (behind p x) (c ∷ x))
      by true e ih = rw (inner c e) (ap (λ (l : List ℕ). c ∷ l) ih)
      by false e ih = refl

  pub behind_within : (x : List ℕ) → behind q x ≡ behind q (behind p x)
  unfolding behind
  behind_within [] = refl
  behind_within (c ∷ x) = by (p c) refl (behind_within x)
    where
      by : (t : Bool) → p c ≡ t → behind q x ≡ behind q (behind p x) → pick (q c) (behind q x) (c ∷ x) ≡ behind q (pick t (behind p x) (c ∷ x))
      by true e ih = rw (inner c e) ih
      by false e ih = refl

  pub front_front : (x : List ℕ) → front p (front q x) ≡ front p x
  unfolding front
  front_front [] = refl
  front_front (c ∷ x) = by (p c) refl (front_front x)
    where
      by : (t : Bool) → p c ≡ t → front p (front q x) ≡ front p x → front p (pick (q c) (c ∷ front q x) []) ≡ pick t (c ∷ front p x) []
      by true e ih = rw (inner c e, e, ih)
      by false e ih = other (q c)
        where
          other : (t : Bool) → front p (pick t (c ∷ front q x) []) ≡ []
          other true = rw e
          other false = refl

  pub behind_front : (x : List ℕ) → behind p (front q x) ≡ front q (behind p x)
  unfolding front behind
  behind_front [] = refl
  behind_front (c ∷ x) = by (p c) refl (behind_front x)
    where
      by : (t : Bool) → p c ≡ t → behind p (front q x) ≡ front q (behind p x)
          → behind p (pick (q c) (c ∷ front q x) []) ≡ front q (pick t (behind p x) (c ∷ x))
      by true e ih = rw (inner c e, e, ih)
      by false e ih = other (q c)
        where
          other : (t : Bool) → behind p (pick t (c ∷ front q x) []) ≡ pick t (c ∷ front q x) []
          other true = rw e
          other false = refl

-- digits and points are not White_Space
pub digit_white : (c : ℕ) → is_digit c ≡ true → is_white_space c ≡ false
digit_white c e =
    let h = within_from 48 57 c e in let g = within_to 48 57 c e in
    sym (ascii_white_lem c (omega arith)) ∙ rw (ne_eqb c 32 (λ q. omega arith)) (within_high 9 13 c (omega arith))

pub number_white : (c : ℕ) → is_digit_or_point c ≡ true → is_not_white c ≡ true
unfolding is_digit_or_point is_not_white
number_white c e = by (is_digit c) refl e
  where
    by : (t : Bool) → is_digit c ≡ t → (t || eqb c point) ≡ true → not (is_white_space c) ≡ true
    by true d q = rw (digit_white c d)
    by false d q = rw (eqb-true c point q) (unfold is_white_space member white_space in refl)

-- a digit is a digit or a point
pub digit_number : (c : ℕ) → is_digit c ≡ true → is_digit_or_point c ≡ true
unfolding is_digit_or_point
digit_number c e = rw e
