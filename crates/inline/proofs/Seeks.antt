-- The search over the characters of a text, up to its next number.
use Prim.Native.Nat.{ℕ}
use mathlib.Core.Path.{◌≡◌, refl, ap, ◌∙◌}
use mathlib.Core.List.{List, [], ◌∷◌, ◌++◌, append-nil}
use mathlib.Core.Bool.{Bool, true, false, ◌&&◌, not}
use native.Mathlib.Omega.{arith}
use lib.Dec.{eqb}
use lib.Seq.{append_snoc}
use borrow.Author.Tests.{eqb-true}
use Rattle.rules.specs.Basic.{pick, minus, is_digit, is_empty}
use Rattle.rules.specs.Unicode.{is_white_space}
use Rattle.rules.specs.Units.{NamedUnit}
use Rattle.rules.specs.Inline.{Words, done, word, blank_onto, letter_onto, words_of, front, behind, is_no_digit, sign, without_sign, Piece, looking, Turn, text_if_any, digit_word, turn, rest, pieces_from, inline_pieces}
use Rattle.inline.proofs.Fronts.{front_behind}
use Rattle.inline.proofs.Words.{digit_first, digit_head, head_first}

-- what is found from x on, where the text p was passed since the last quantity
module _ (us : List NamedUnit) where
  unfoldable pub seek : List ℕ → List ℕ → List Piece
  seek p x = pieces_from us (looking p) (words_of x)

  pub seek_all : (x : List ℕ) → inline_pieces us x ≡ seek [] x
  unfolding seek inline_pieces
  seek_all x = refl

  pub seek_end : (p : List ℕ) → seek p [] ≡ text_if_any p
  unfolding seek words_of pieces_from rest
  seek_end p = rw (append-nil p)

  -- a character that is no digit, and no minus before a digit, is passed over
  pass_blank : (p : List ℕ) (c : ℕ) (ws : Words) → pieces_from us (looking p) (blank_onto c ws) ≡ pieces_from us (looking (p ++ (c ∷ []))) ws
  unfolding pieces_from blank_onto rest turn
  pass_blank p c (done b) = rw (append_snoc p c b)
  pass_blank p c (word b w ws) = rw (append_snoc p c b)

  -- a word that holds no digit
  turn_none : (p b w : List ℕ) → behind is_no_digit w ≡ [] → turn us (looking p) b w ≡ record { found = []; now = looking (p ++ b ++ w) }
  unfolding turn digit_word is_empty
  turn_none p b w e = rw e

  -- a character more before the first digit of a word
  shift_some : (p : List ℕ) (c d : ℕ) (l v q : List ℕ) → digit_word us p (c ∷ d ∷ l) v q ≡ digit_word us (p ++ (c ∷ [])) (d ∷ l) v q
  unfolding digit_word sign without_sign
  shift_some p c d l v q = rw (append_snoc p c (without_sign (d ∷ l)))

  shift_last : (p : List ℕ) (c : ℕ) (v q : List ℕ) → eqb c minus ≡ false → digit_word us p (c ∷ []) v q ≡ digit_word us (p ++ (c ∷ [])) [] v q
  unfolding digit_word sign without_sign
  shift_last p c v q e = rw (e, append-nil (p ++ (c ∷ [])))

  shift_none : (p : List ℕ) (c : ℕ) (q : List ℕ) → digit_word us p (c ∷ []) [] q ≡ digit_word us (p ++ (c ∷ [])) [] [] q
  unfolding digit_word is_empty
  shift_none p c q = refl

  shift : (p : List ℕ) (c : ℕ) (w q : List ℕ) → is_digit c ≡ false → (eqb c minus && digit_first w) ≡ false
      → digit_word us p (front is_no_digit (c ∷ w)) (behind is_no_digit (c ∷ w)) q ≡ digit_word us (p ++ (c ∷ [])) (front is_no_digit w) (behind is_no_digit w) q
  unfolding front behind is_no_digit
  shift p c [] q d m = rw d (shift_none p c q)
  shift p c (e ∷ w) q d m = rw d (by (is_digit e) (unfold digit_first in m))
    where
      by : (t : Bool) → (eqb c minus && t) ≡ false
          → digit_word us p (c ∷ pick (not t) (e ∷ front is_no_digit w) []) (pick (not t) (behind is_no_digit w) (e ∷ w)) q
          ≡ digit_word us (p ++ (c ∷ [])) (pick (not t) (e ∷ front is_no_digit w) []) (pick (not t) (behind is_no_digit w) (e ∷ w)) q
      by true m = shift_last p c (e ∷ w) q (minus_no (eqb c minus) m)
        where
          minus_no : (t : Bool) → (t && true) ≡ false → t ≡ false
          minus_no true e = e
          minus_no false e = refl
      by false m = shift_some p c e (front is_no_digit w) (behind is_no_digit w) q

  behind_1 : (c : ℕ) → is_digit c ≡ false → behind is_no_digit (c ∷ []) ≡ []
  unfolding behind is_no_digit
  behind_1 c e = rw e

  pass_letter : (p : List ℕ) (c : ℕ) (ws : Words) → is_digit c ≡ false → (eqb c minus && digit_head ws) ≡ false
      → pieces_from us (looking p) (letter_onto c ws) ≡ pieces_from us (looking (p ++ (c ∷ []))) ws
  unfolding pieces_from letter_onto
  pass_letter p c (done b) d m = rw (turn_none p [] (c ∷ []) (behind_1 c d), append-nil p)
  pass_letter p c (word (e ∷ b) w ws) d m = rw (turn_none p [] (c ∷ []) (behind_1 c d), append-nil p)
  pass_letter p c (word [] w ws) d m =
      ap (λ (t : Turn). t.found ++ pieces_from us t.now ws) same
    where
      same : turn us (looking p) [] (c ∷ w) ≡ turn us (looking (p ++ (c ∷ []))) [] w
      same = unfold turn in rw (append-nil p, append-nil (p ++ (c ∷ [])), append_snoc p c w) (shift p c w (p ++ (c ∷ w)) d (unfold digit_head in m))

  seek_step : (p : List ℕ) (c : ℕ) (x : List ℕ) → is_digit c ≡ false → (eqb c minus && digit_first x) ≡ false → seek p (c ∷ x) ≡ seek (p ++ (c ∷ [])) x
  unfolding seek words_of
  seek_step p c x d m = by (is_white_space c)
    where
      other : (t u : Bool) → (u && t) ≡ false → (t ≡ false → digit_head (words_of x) ≡ false) → (u && digit_head (words_of x)) ≡ false
      other true true m f = absurd (let z : ◌≡◌ {A = ℕ} 0 1 = cc in omega arith)
      other true false m f = refl
      other false true m f = f refl
      other false false m f = refl

      by : (t : Bool) → pieces_from us (looking p) (pick t (blank_onto c (words_of x)) (letter_onto c (words_of x))) ≡ pieces_from us (looking (p ++ (c ∷ []))) (words_of x)
      by true = pass_blank p c (words_of x)
      by false = pass_letter p c (words_of x) d (other (digit_first x) (eqb c minus) m (λ e. head_first x e))

  -- all up to the next number is passed over
  step_no : (p : List ℕ) (c : ℕ) (x : List ℕ) → is_digit c ≡ false → digit_first x ≡ false → seek p (c ∷ x) ≡ seek (p ++ (c ∷ [])) x
  step_no p c x d e = seek_step p c x d (rw e (no (eqb c minus)))
    where
      no : (t : Bool) → (t && false) ≡ false
      no true = refl
      no false = refl

  pub seek_none : (p y : List ℕ) → behind is_no_digit y ≡ [] → seek p y ≡ text_if_any (p ++ y)
  unfolding behind is_no_digit
  seek_none p [] e = rw (append-nil p) (seek_end p)
  seek_none p (c ∷ y) e = by (is_digit c) refl e (λ q. seek_none (p ++ (c ∷ [])) y q)
    where
      first : (x : List ℕ) → behind is_no_digit x ≡ [] → digit_first x ≡ false
      first [] q = unfold digit_first in refl
      first (d ∷ x) q = unfold digit_first in go (is_digit d) q
        where
          go : (t : Bool) → pick (not t) (behind is_no_digit x) (d ∷ x) ≡ [] → t ≡ false
          go true q = absurd (let z : ◌≡◌ {A = ℕ} 0 1 = cc in omega arith)
          go false q = refl

      by : (t : Bool) → is_digit c ≡ t → pick (not t) (behind is_no_digit y) (c ∷ y) ≡ []
          → (behind is_no_digit y ≡ [] → seek (p ++ (c ∷ [])) y ≡ text_if_any (p ++ (c ∷ []) ++ y)) → seek p (c ∷ y) ≡ text_if_any (p ++ (c ∷ y))
      by true d q ih = absurd (let z : ◌≡◌ {A = ℕ} 0 1 = cc in omega arith)
      by false d q ih = step_no p c y d (first y q) ∙ ih q ∙ rw (append_snoc p c y)

  -- but for the number's sign
  near : (p : List ℕ) (c : ℕ) (y l v : List ℕ) → l ++ v ≡ y → is_digit c ≡ false → digit_first l ≡ false
      → seek (p ++ (c ∷ [])) y ≡ seek (p ++ (c ∷ []) ++ without_sign l) (sign l ++ v) → seek p (c ∷ y) ≡ seek (p ++ without_sign (c ∷ l)) (sign (c ∷ l) ++ v)
  near p c y (a ∷ l) v e d q ih =
      step_no p c y d (rw (← e) (unfold digit_first in q)) ∙ ih ∙ unfold sign without_sign in rw (append_snoc p c (without_sign (a ∷ l)))
  near p c y [] v e d q ih = unfold sign without_sign in by (eqb c minus) refl
    where
      by : (t : Bool) → eqb c minus ≡ t → seek p (c ∷ y) ≡ seek (p ++ pick t [] (c ∷ [])) (pick t (minus ∷ []) [] ++ v)
      by true m = rw (append-nil p, eqb-true c minus m, e)
      by false m = seek_step p c y d (rw m) ∙ rw e

  no_digit_first : (y : List ℕ) → digit_first (front is_no_digit y) ≡ false
  unfolding front is_no_digit digit_first
  no_digit_first [] = refl
  no_digit_first (a ∷ y) = go (is_digit a) refl
    where
      go : (t : Bool) → is_digit a ≡ t → digit_first (pick (not t) (a ∷ front is_no_digit y) []) ≡ false
      go true e = refl
      go false e = e

  pub seek_front : (p y : List ℕ) → seek p y ≡ seek (p ++ without_sign (front is_no_digit y)) (sign (front is_no_digit y) ++ behind is_no_digit y)
  unfolding front behind is_no_digit
  seek_front p [] = unfold sign without_sign in rw (append-nil p)
  seek_front p (c ∷ y) = by (is_digit c) refl (seek_front (p ++ (c ∷ [])) y)
    where
      by : (t : Bool) → is_digit c ≡ t
          → seek (p ++ (c ∷ [])) y ≡ seek (p ++ (c ∷ []) ++ without_sign (front is_no_digit y)) (sign (front is_no_digit y) ++ behind is_no_digit y)
          → seek p (c ∷ y)
          ≡ seek (p ++ without_sign (pick (not t) (c ∷ front is_no_digit y) [])) (sign (pick (not t) (c ∷ front is_no_digit y) []) ++ pick (not t) (behind is_no_digit y) (c ∷ y))
      by true d ih = unfold sign without_sign in rw (append-nil p)
      by false d ih = near p c y (front is_no_digit y) (behind is_no_digit y) (front_behind is_no_digit y) d (no_digit_first y) ih
