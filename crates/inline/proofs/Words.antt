-- The words of a text, and what stands before and after them.
use Prim.Native.Nat.{ℕ}
use mathlib.Core.Path.{◌≡◌, refl, ◌∙◌}
use mathlib.Core.List.{List, [], ◌∷◌}
use mathlib.Core.Bool.{Bool, true, false, not}
use native.Mathlib.Omega.{arith}
use Rattle.rules.specs.Basic.{pick, is_digit}
use Rattle.rules.specs.Unicode.{is_white_space}
use Rattle.rules.specs.Inline.{Words, done, word, blank_onto, letter_onto, words_of, front, behind}
use Rattle.inline.specs.Scans.{is_not_white}
use Rattle.inline.proofs.Fronts.{front_yes, front_no}

-- a text that starts with a letter starts with a word
onto_blank : (c d : ℕ) (ws : Words) → letter_onto c (blank_onto d ws) ≡ word [] (c ∷ []) (blank_onto d ws)
unfolding letter_onto blank_onto
onto_blank c d (done b) = refl
onto_blank c d (word b w ws) = refl

pub words_letter : (c : ℕ) (x : List ℕ) → is_white_space c ≡ false
    → words_of (c ∷ x) ≡ word [] (front is_not_white (c ∷ x)) (words_of (behind is_not_white (c ∷ x)))
unfolding words_of front behind is_not_white
words_letter c [] e = rw e (unfold letter_onto in refl)
words_letter c (d ∷ x) e = rw e (by (is_white_space d) refl (words_letter d x))
  where
    by : (t : Bool) → is_white_space d ≡ t → (is_white_space d ≡ false → words_of (d ∷ x) ≡ word [] (front is_not_white (d ∷ x)) (words_of (behind is_not_white (d ∷ x))))
        → letter_onto c (pick t (blank_onto d (words_of x)) (letter_onto d (words_of x)))
        ≡ word [] (c ∷ pick (not t) (d ∷ front is_not_white x) []) (words_of (pick (not t) (behind is_not_white x) (d ∷ x)))
    by true w ih = onto_blank c d (words_of x) ∙ rw w
    by false w ih =
        let q : letter_onto d (words_of x) ≡ word [] (d ∷ front is_not_white x) (words_of (behind is_not_white x)) = rw w at (ih w) in
        rw q (unfold letter_onto in refl)

words_as : (z b u v : List ℕ) → u ≡ v → words_of z ≡ word b (front is_not_white u) (words_of (behind is_not_white u))
    → words_of z ≡ word b (front is_not_white v) (words_of (behind is_not_white v))
words_as z b u v e h = rw e at h

-- blanks stand before the first word
pub words_blanks : (x : List ℕ) (c : ℕ) (y : List ℕ) → behind is_white_space x ≡ c ∷ y
    → words_of x ≡ word (front is_white_space x) (front is_not_white (c ∷ y)) (words_of (behind is_not_white (c ∷ y)))
unfolding behind
words_blanks [] c y e = absurd (let z : ◌≡◌ {A = ℕ} 0 1 = cc in omega arith)
words_blanks (d ∷ x) c y e = by (is_white_space d) refl e (words_blanks x c y)
  where
    by : (t : Bool) → is_white_space d ≡ t → pick t (behind is_white_space x) (d ∷ x) ≡ c ∷ y
        → (behind is_white_space x ≡ c ∷ y → words_of x ≡ word (front is_white_space x) (front is_not_white (c ∷ y)) (words_of (behind is_not_white (c ∷ y))))
        → words_of (d ∷ x) ≡ word (front is_white_space (d ∷ x)) (front is_not_white (c ∷ y)) (words_of (behind is_not_white (c ∷ y)))
    by true w q ih = rw (front_yes is_white_space d x w) (unfold words_of in rw (w, ih q) (unfold blank_onto in refl))
    by false w q ih = rw (front_no is_white_space d x w) (words_as (d ∷ x) [] (d ∷ x) (c ∷ y) q (words_letter d x w))

pub words_none : (x : List ℕ) → behind is_white_space x ≡ [] → words_of x ≡ done x
unfolding behind words_of
words_none [] e = refl
words_none (d ∷ x) e = by (is_white_space d) refl e (words_none x)
  where
    by : (t : Bool) → is_white_space d ≡ t → pick t (behind is_white_space x) (d ∷ x) ≡ [] → (behind is_white_space x ≡ [] → words_of x ≡ done x)
        → pick t (blank_onto d (words_of x)) (letter_onto d (words_of x)) ≡ done (d ∷ x)
    by true w q ih = rw (ih q) (unfold blank_onto in refl)
    by false w q ih = absurd (let z : ◌≡◌ {A = ℕ} 0 1 = cc in omega arith)

-- a text that starts with a digit
unfoldable pub digit_first : List ℕ → Bool
digit_first [] = false
digit_first (c ∷ x) = is_digit c

unfoldable pub digit_head : Words → Bool
digit_head (done b) = false
digit_head (word [] w ws) = digit_first w
digit_head (word (d ∷ b) w ws) = false

head_blank : (c : ℕ) (ws : Words) → digit_head (blank_onto c ws) ≡ false
unfolding digit_head blank_onto
head_blank c (done b) = refl
head_blank c (word b w ws) = refl

head_letter : (c : ℕ) (ws : Words) → digit_head (letter_onto c ws) ≡ is_digit c
unfolding digit_head letter_onto digit_first
head_letter c (done b) = refl
head_letter c (word [] w ws) = refl
head_letter c (word (d ∷ b) w ws) = refl

pub head_first : (x : List ℕ) → digit_first x ≡ false → digit_head (words_of x) ≡ false
unfolding digit_first words_of
head_first [] e = unfold digit_head in refl
head_first (c ∷ x) e = by (is_white_space c)
  where
    by : (t : Bool) → digit_head (pick t (blank_onto c (words_of x)) (letter_onto c (words_of x))) ≡ false
    by true = head_blank c (words_of x)
    by false = head_letter c (words_of x) ∙ e
