-- The search at a number: the word of its unit, and whether the unit is known.
use Prim.Native.Nat.{ℕ}
use mathlib.Core.Path.{◌≡◌, refl, ap, ◌∙◌}
use mathlib.Core.List.{List, [], ◌∷◌, ◌++◌, append-nil, append_assoc}
use mathlib.Core.Bool.{Bool, true, false, ◌&&◌}
use native.Mathlib.Omega.{arith}
use lib.Dec.{eqb}
use Rattle.rules.specs.Basic.{pick, minus, is_digit, is_empty, is_some}
use Rattle.rules.specs.Ranges.{member}
use Rattle.rules.specs.WhiteSpace.{white_space}
use Rattle.rules.specs.Unicode.{is_white_space}
use Rattle.rules.specs.Text.{unit_trimmed}
use Rattle.rules.specs.Units.{NamedUnit, find_unit}
use Rattle.rules.specs.Inline.{word, words_of, front, behind, is_no_digit, is_digit_or_point, is_number, sign, without_sign, Piece, quantity_piece, looking, awaiting, Turn, text_if_any, try_unit, number_word, digit_word, turn, rest, pieces_from, inline_pieces}
use Rattle.inline.specs.Scans.{is_not_white}
use Rattle.inline.proofs.Fronts.{front_behind, front_yes, behind_yes, front_no, behind_no, behind_none, front_within, behind_within, front_front, behind_front, number_white, digit_white}
use Rattle.inline.proofs.Words.{words_letter, words_blanks, words_none}
use Rattle.inline.proofs.Seeks.{seek}

-- a sign, or none
pub data Sign : List ℕ → Type 0 where
  unsigned : Sign []
  signed : Sign (minus ∷ [])

pub sign_is : (l : List ℕ) → Sign (sign l)
unfolding sign
sign_is [] = unsigned
sign_is (c ∷ d ∷ l) = sign_is (d ∷ l)
sign_is (c ∷ []) = by (eqb c minus)
  where
    by : (t : Bool) → Sign (pick t (minus ∷ []) [])
    by true = signed
    by false = unsigned

minus_white : is_white_space minus ≡ false
unfolding is_white_space member white_space
minus_white = refl

not_white : (c : ℕ) → is_white_space c ≡ false → is_not_white c ≡ true
unfolding is_not_white
not_white c e = rw e

white_not : (c : ℕ) → is_white_space c ≡ true → is_not_white c ≡ false
unfolding is_not_white
white_not c e = rw e

words_sign : {g : List ℕ} (c : ℕ) (x : List ℕ) → Sign g → is_white_space c ≡ false
    → words_of (g ++ (c ∷ x)) ≡ word [] (g ++ front is_not_white (c ∷ x)) (words_of (behind is_not_white (c ∷ x)))
words_sign c x unsigned e = words_letter c x e
words_sign c x signed e =
    words_letter minus (c ∷ x) minus_white
    ∙ rw (front_yes is_not_white minus (c ∷ x) (not_white minus minus_white), behind_yes is_not_white minus (c ∷ x) (not_white minus minus_white))

digit_no : (c : ℕ) → is_digit c ≡ true → is_no_digit c ≡ false
unfolding is_no_digit
digit_no c e = rw e

minus_no_digit : is_no_digit minus ≡ true
unfolding is_no_digit
minus_no_digit = refl

-- blanks alone hold no word
blank_front : (z : List ℕ) → behind is_white_space z ≡ [] → front is_not_white z ≡ []
unfolding behind
blank_front [] e = unfold front in refl
blank_front (c ∷ z) e = by (is_white_space c) refl e
  where
    by : (t : Bool) → is_white_space c ≡ t → pick t (behind is_white_space z) (c ∷ z) ≡ [] → front is_not_white (c ∷ z) ≡ []
    by true w q = front_no is_not_white c z (white_not c w)
    by false w q = absurd (let o : ◌≡◌ {A = ℕ} 0 1 = cc in omega arith)

blank_behind : (z : List ℕ) → behind is_white_space z ≡ [] → behind is_not_white z ≡ z
blank_behind z e = rw (blank_front z e) at (front_behind is_not_white z)

module _ (us : List NamedUnit) where
  -- the word of a number
  lead_turn : {g : List ℕ} (p : List ℕ) (c : ℕ) (w : List ℕ) → Sign g → is_digit c ≡ true
      → turn us (looking p) [] (g ++ (c ∷ w)) ≡ number_word us p (g ++ front is_digit_or_point (c ∷ w)) (behind is_digit_or_point (c ∷ w)) (p ++ (g ++ (c ∷ w)))
  unfolding turn digit_word is_empty sign without_sign
  lead_turn p c w unsigned d = rw (front_no is_no_digit c w (digit_no c d), behind_no is_no_digit c w (digit_no c d), append-nil p, append-nil p)
  lead_turn p c w signed d =
      rw (
        front_yes is_no_digit minus (c ∷ w) minus_no_digit,
        front_no is_no_digit c w (digit_no c d),
        behind_yes is_no_digit minus (c ∷ w) minus_no_digit,
        behind_no is_no_digit c w (digit_no c d),
        append-nil p,
        append-nil p,
      )

  number_turn : {g : List ℕ} (p : List ℕ) (c : ℕ) (x : List ℕ) → Sign g → is_digit c ≡ true
      → turn us (looking p) [] (g ++ front is_not_white (c ∷ x))
      ≡ number_word us p (g ++ front is_digit_or_point (c ∷ x)) (front is_not_white (behind is_digit_or_point (c ∷ x))) (p ++ (g ++ front is_not_white (c ∷ x)))
  number_turn p c x g d =
      rw (
        ← front_front is_digit_or_point is_not_white number_white (c ∷ x),
        ← behind_front is_digit_or_point is_not_white number_white (c ∷ x),
        front_yes is_not_white c x (not_white c (digit_white c d)),
      )
      (lead_turn p c (front is_not_white x) g d)

  -- what a turn found, and what is found after it
  unfoldable pub after : Turn → List ℕ → List Piece
  after t r = t.found ++ pieces_from us t.now (words_of r)

  number_word_lem : {g : List ℕ} (p : List ℕ) (c : ℕ) (x z : List ℕ) → Sign g → is_digit c ≡ true → behind is_digit_or_point (c ∷ x) ≡ z
      → seek us p (g ++ (c ∷ x))
      ≡ after (number_word us p (g ++ front is_digit_or_point (c ∷ x)) (front is_not_white z) (p ++ (g ++ (front is_digit_or_point (c ∷ x) ++ front is_not_white z)))) (behind is_not_white z)
  number_word_lem {g} p c x z s d e =
      first
      ∙ rw (number_turn p c x s d, front_within is_digit_or_point is_not_white number_white (c ∷ x), behind_within is_digit_or_point is_not_white number_white (c ∷ x), e)
    where
      first : seek us p (g ++ (c ∷ x)) ≡ after (turn us (looking p) [] (g ++ front is_not_white (c ∷ x))) (behind is_not_white (c ∷ x))
      first = unfold seek after pieces_from in rw (words_sign c x s (digit_white c d))

  -- the word of a number that ends with it
  wait : (p n q r : List ℕ) → after (number_word us p n [] q) r ≡ pieces_from us (awaiting p n q) (words_of r)
  unfolding after number_word is_empty
  wait p n q r = refl

  try : (p n : List ℕ) (c : ℕ) (u q : List ℕ) → number_word us p n (c ∷ u) q ≡ try_unit us p n (unit_trimmed (c ∷ u)) q
  unfolding number_word is_empty
  try p n c u q = refl

  -- a number at the end of the text
  pub number_last : {g : List ℕ} (p : List ℕ) (c : ℕ) (x : List ℕ) → Sign g → is_digit c ≡ true
      → behind is_white_space (behind is_digit_or_point (c ∷ x)) ≡ [] → seek us p (g ++ (c ∷ x)) ≡ text_if_any (p ++ (g ++ (c ∷ x)))
  number_last {g} p c x s d e =
      number_word_lem p c x z s d refl
      ∙ rw (blank_front z e, blank_behind z e, wait p (g ++ n) (p ++ (g ++ (n ++ []))) z, words_none z e)
      (unfold pieces_from rest in (ap text_if_any (simp (append_assoc, append-nil) (rw (front_behind is_digit_or_point (c ∷ x))))))
    where
      z : List ℕ
      z = behind is_digit_or_point (c ∷ x)

      n : List ℕ
      n = front is_digit_or_point (c ∷ x)

  -- the word of a unit, next to the number or after blanks
  unit_apart : (p n k z : List ℕ) (e : ℕ) (y : List ℕ) → front is_not_white z ≡ [] → behind is_white_space z ≡ e ∷ y
      → after (number_word us p n (front is_not_white z) (k ++ front is_not_white z)) (behind is_not_white z)
      ≡ after (try_unit us p n (unit_trimmed (front is_not_white (e ∷ y))) (k ++ (front is_white_space z ++ front is_not_white (e ∷ y)))) (behind is_not_white (e ∷ y))
  unit_apart p n k z e y f q =
      let h : behind is_not_white z ≡ z = rw f at (front_behind is_not_white z) in
      rw (f, h, append-nil k, wait p n k z, words_blanks z e y q, ← append_assoc k (front is_white_space z) (front is_not_white (e ∷ y)))
      (unfold pieces_from turn after in refl)

  unit_next : (p n k : List ℕ) (e : ℕ) (y : List ℕ) → is_white_space e ≡ false
      → after (number_word us p n (front is_not_white (e ∷ y)) (k ++ front is_not_white (e ∷ y))) (behind is_not_white (e ∷ y))
      ≡ after (try_unit us p n (unit_trimmed (front is_not_white (e ∷ y))) (k ++ front is_not_white (e ∷ y))) (behind is_not_white (e ∷ y))
  unit_next p n k e y w = rw (front_yes is_not_white e y (not_white e w), try p n e (front is_not_white y) (k ++ (e ∷ front is_not_white y)))

  unit_as_lem : (p n k : List ℕ) {a b : List ℕ} → a ≡ b
      → after (number_word us p n (front is_not_white a) (k ++ front is_not_white a)) (behind is_not_white a)
      ≡ after (try_unit us p n (unit_trimmed (front is_not_white a)) (k ++ front is_not_white a)) (behind is_not_white a)
      → after (number_word us p n (front is_not_white a) (k ++ front is_not_white a)) (behind is_not_white a)
      ≡ after (try_unit us p n (unit_trimmed (front is_not_white b)) (k ++ front is_not_white b)) (behind is_not_white b)
  unit_as_lem p n k q h = h ∙ rw q

  unit_word : (p n k z : List ℕ) (e : ℕ) (y : List ℕ) → behind is_white_space z ≡ e ∷ y
      → after (number_word us p n (front is_not_white z) (k ++ front is_not_white z)) (behind is_not_white z)
      ≡ after (try_unit us p n (unit_trimmed (front is_not_white (e ∷ y))) (k ++ (front is_white_space z ++ front is_not_white (e ∷ y)))) (behind is_not_white (e ∷ y))
  unit_word p n k [] e y q = absurd (let q2 = rw (behind_none is_white_space) at q in let o : ◌≡◌ {A = ℕ} 0 1 = cc in omega arith)
  unit_word p n k (a ∷ z) e y q = by (is_white_space a) refl
    where
      by : (t : Bool) → is_white_space a ≡ t
          → after (number_word us p n (front is_not_white (a ∷ z)) (k ++ front is_not_white (a ∷ z))) (behind is_not_white (a ∷ z))
          ≡ after (try_unit us p n (unit_trimmed (front is_not_white (e ∷ y))) (k ++ (front is_white_space (a ∷ z) ++ front is_not_white (e ∷ y)))) (behind is_not_white (e ∷ y))
      by true w = unit_apart p n k (a ∷ z) e y (front_no is_not_white a z (white_not a w)) q
      by false w = rw (front_no is_white_space a z w) (unit_as_lem p n k (rw (behind_no is_white_space a z w) at q) (unit_next p n k a z w))

  -- a number, maybe blanks, and the word of its unit
  pub number_unit : {g : List ℕ} (p : List ℕ) (c : ℕ) (x z : List ℕ) (e : ℕ) (y : List ℕ) → Sign g → is_digit c ≡ true
      → behind is_digit_or_point (c ∷ x) ≡ z → behind is_white_space z ≡ e ∷ y
      → seek us p (g ++ (c ∷ x))
      ≡ after (try_unit us p (g ++ front is_digit_or_point (c ∷ x)) (unit_trimmed (front is_not_white (e ∷ y)))
      (p ++ (g ++ (front is_digit_or_point (c ∷ x) ++ (front is_white_space z ++ front is_not_white (e ∷ y)))))) (behind is_not_white (e ∷ y))
  number_unit {g} p c x z e y s d f q =
      number_word_lem p c x z s d f
      ∙ rw (group (front is_not_white z), group (front is_white_space z ++ front is_not_white (e ∷ y))) (unit_word p (g ++ n) (p ++ (g ++ n)) z e y q)
    where
      n : List ℕ
      n = front is_digit_or_point (c ∷ x)

      group : (t : List ℕ) → p ++ (g ++ (n ++ t)) ≡ (p ++ (g ++ n)) ++ t
      group t = simp append_assoc

  -- a unit that is known, and one that is not
  pub unit_known : (p n u q r : List ℕ) → is_number n ≡ true → is_some (find_unit u us) ≡ true
      → after (try_unit us p n u q) r ≡ text_if_any p ++ (quantity_piece n u ∷ inline_pieces us r)
  unfolding after try_unit inline_pieces
  unit_known p n u q r a b = rw (a, b) (rw append_assoc)

  pub unit_other : (p n u q r : List ℕ) → (is_number n && is_some (find_unit u us)) ≡ false → after (try_unit us p n u q) r ≡ seek us q r
  unfolding after try_unit seek
  unit_other p n u q r a = rw a
