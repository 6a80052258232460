-- The classes and the folding below 128, each by one computed test.
use Prim.Native.Nat.{ℕ, ◌+◌, ◌<◌}
use mathlib.Core.Path.{◌≡◌, refl, sym, ◌∙◌}
use mathlib.Core.Bool.{Bool, true, false, not}
use mathlib.Core.List.{List, [], ◌∷◌}
use lib.Dec.{eqb}
use borrow.Author.Tests.{eqb-true, eq-eqb, ne_eqb}
use Rattle.rules.specs.Basic.{pick, within}
use Rattle.rules.specs.Ranges.{member, lookup}
use Rattle.rules.specs.Alphabetic.{alphabetic}
use Rattle.rules.specs.Numeric.{numeric}
use Rattle.rules.specs.WhiteSpace.{white_space}
use Rattle.rules.specs.Folding.{folding}
use Rattle.rules.specs.Unicode.{is_white_space, is_alphabetic, is_numeric, is_alphanumeric, fold}
use Rattle.rules.proofs.Basics.{no_truth}
use Rattle.letters.proofs.Below.{all_below, below}

-- two answers are the same
abbrev same : Bool → Bool → Bool
same a b = pick a b (not b)

same_is : (a b : Bool) → same a b ≡ true → a ≡ b
same_is true true h = refl
same_is true false h = no_truth h
same_is false true h = no_truth h
same_is false false h = refl

abbrev ascii_white : ℕ → Bool
ascii_white c = pick (eqb c 32) true (within 9 13 c)

abbrev ascii_letter : ℕ → Bool
ascii_letter c = pick (within 97 122 c) true (within 65 90 c)

white_below : all_below (λ c. same (ascii_white c) (is_white_space c)) 128 ≡ true
unfolding is_white_space member white_space
white_below = refl

pub ascii_white_lem : (c : ℕ) → c < 128 → ascii_white c ≡ is_white_space c
ascii_white_lem c h = same_is (ascii_white c) (is_white_space c) (below (λ c. same (ascii_white c) (is_white_space c)) 128 white_below c h)

alphabetic_below : all_below (λ c. same (ascii_letter c) (is_alphabetic c)) 128 ≡ true
unfolding is_alphabetic member alphabetic
alphabetic_below = refl

pub ascii_alphabetic : (c : ℕ) → c < 128 → ascii_letter c ≡ is_alphabetic c
ascii_alphabetic c h =
    same_is (ascii_letter c) (is_alphabetic c) (below (λ c. same (ascii_letter c) (is_alphabetic c)) 128 alphabetic_below c h)

numeric_below : all_below (λ c. same (within 48 57 c) (is_numeric c)) 128 ≡ true
unfolding is_numeric member numeric
numeric_below = refl

pub ascii_numeric : (c : ℕ) → c < 128 → within 48 57 c ≡ is_numeric c
ascii_numeric c h = same_is (within 48 57 c) (is_numeric c) (below (λ c. same (within 48 57 c) (is_numeric c)) 128 numeric_below c h)

-- the list is x alone
abbrev pub alone : ℕ → List ℕ → Bool
alone x [] = false
alone x (y ∷ []) = eqb x y
alone x (y ∷ z ∷ ys) = false

pub alone_is : (x : ℕ) (ys : List ℕ) → alone x ys ≡ true → x ∷ [] ≡ ys
alone_is x [] h = no_truth h
alone_is x (y ∷ []) h = rw (eqb-true x y h)
alone_is x (y ∷ z ∷ ys) h = no_truth h

abbrev ascii_fold : ℕ → ℕ
ascii_fold c = pick (within 65 90 c) (c + 32) c

fold_below : all_below (λ c. alone (ascii_fold c) (fold c)) 128 ≡ true
unfolding fold lookup folding
fold_below = refl

pub ascii_fold_lem : (c : ℕ) → c < 128 → ascii_fold c ∷ [] ≡ fold c
ascii_fold_lem c h = alone_is (ascii_fold c) (fold c) (below (λ c. alone (ascii_fold c) (fold c)) 128 fold_below c h)

-- ---- each way through the code's tests

module _ (c : ℕ) (h : c < 128) where
  pub white_blank : c ≡ 32 → true ≡ is_white_space c
  white_blank e = rw (eq-eqb c 32 e) at (ascii_white_lem c h)

  pub white_other : {r : Bool} → (c ≡ 32 → ⊥) → r ≡ within 9 13 c → r ≡ is_white_space c
  white_other n e = e ∙ (rw (ne_eqb c 32 n) at (ascii_white_lem c h))

  pub letter_lower : {r : Bool} → r ≡ within 97 122 c → r ≡ true → r ≡ is_alphabetic c
  letter_lower e t = t ∙ (rw (sym e ∙ t) at (ascii_alphabetic c h))

  pub letter_upper : {r s : Bool} → r ≡ within 97 122 c → r ≡ false → s ≡ within 65 90 c → s ≡ is_alphabetic c
  letter_upper e f g = g ∙ (rw (sym e ∙ f) at (ascii_alphabetic c h))

  pub digit : {r : Bool} → r ≡ within 48 57 c → r ≡ is_numeric c
  digit e = e ∙ ascii_numeric c h

  pub fold_upper : {r : Bool} → r ≡ within 65 90 c → r ≡ true → (c + 32) ∷ [] ≡ fold c
  fold_upper e t = rw (sym e ∙ t) at (ascii_fold_lem c h)

  pub fold_other : {r : Bool} → r ≡ within 65 90 c → r ≡ false → c ∷ [] ≡ fold c
  fold_other e t = rw (sym e ∙ t) at (ascii_fold_lem c h)

-- either class
module _ (c : ℕ) where
  pub either_first : {a : Bool} → a ≡ is_alphabetic c → a ≡ true → true ≡ is_alphanumeric c
  unfolding is_alphanumeric
  either_first e t = rw (sym e ∙ t)

  pub either_second : {a b : Bool} → a ≡ is_alphabetic c → a ≡ false → b ≡ is_numeric c → b ≡ is_alphanumeric c
  unfolding is_alphanumeric
  either_second e t f = f ∙ rw (sym e ∙ t)
