-- The words that are kept: places, the words of a row, and what they say beside a new unit.
use Prim.Native.Nat.{ℕ, ◌+◌, ◌*◌, ◌≤◌, ◌<◌}
use mathlib.Core.Path.{◌≡◌, refl, ◌∙◌}
use mathlib.Core.Bool.{Bool, true, false, ◌&&◌}
use mathlib.Core.List.{List}
use Rattle.std.specs.Prelude.{Option, None, Some}
use native.Mathlib.Omega.{arith}
use borrow.Author.Tests.{eqb-true, eq-eqb, ne_eqb, le-ltb}
use lib.Dec.{eqb}
use lib.ListN.{length, get_or, set, length-set}
use lib.Seq.{get_or-set_same, get_or-set_other}
use Rattle.parts.specs.declared.Part.{Part}
use Rattle.unit_codes.specs.Codes.{code_in, start_in, end_in, PlaceWord, kept_word, with_word, UpToFive, is_unlisted, code_fits, known_fits}
use Rattle.unit_codes.specs.declared.TheConstants.{CODES}
use Rattle.model.specs.declared.layout.TheConstants.{MOST_INGREDIENTS}

-- ---- the word of a place

pub place_plain : {p : Part} → PlaceWord p 6
unfolding code_in
place_plain = record { is = refl; start = λ l. absurd (omega arith); end = λ l. absurd (omega arith) }

pub place_packed : (p : Part) → 1 ≤ p.from → p.from ≤ p.to → p.to ≤ 65535 → PlaceWord p (p.from * 65536 + p.to)
unfolding code_in start_in end_in
place_packed p l o m = record { is = rw (le-ltb (p.from * 65536 + p.to) 16 (omega arith)); start = λ g. omega arith; end = λ g. omega arith }

-- ---- what is kept

module _ (codes : List ℕ) (i at end : ℕ) where
  pub kept_here : get_or codes (i * 3) 0 ≡ at → get_or codes (i * 3 + 1) 0 ≡ end → get_or codes (i * 3 + 2) 0 ≡ kept_word codes i at end
  unfolding kept_word
  kept_here a b = rw (eq-eqb _ _ a, eq-eqb _ _ b)

  pub kept_start : (get_or codes (i * 3) 0 ≡ at → ⊥) → 0 ≡ kept_word codes i at end
  unfolding kept_word
  kept_start a = rw (ne_eqb _ _ a)

  pub kept_end : get_or codes (i * 3) 0 ≡ at → (get_or codes (i * 3 + 1) 0 ≡ end → ⊥) → 0 ≡ kept_word codes i at end
  unfolding kept_word
  kept_end a b = rw (eq-eqb _ _ a, ne_eqb _ _ b)

pub and_none : (b : Bool) → false ≡ (b && false)
and_none true = refl
and_none false = refl

-- ---- what a word says

module _ (o : ℕ) (n : Option ℕ) {k : ℕ} (e : k ≡ o) {b : Bool} (s : b ≡ (eqb k 6 && is_unlisted n)) where
  pub known_not : b ≡ true → false ≡ known_fits o n
  unfolding known_fits
  known_not h = rw (← e, ← s, h)

  pub known_code : {r : Bool} → b ≡ false → r ≡ code_fits k n → r ≡ known_fits o n
  unfolding known_fits
  known_code h c = rw (← e, ← s, h) c

pub zero_not : (n : Option ℕ) → code_fits 0 n ≡ true → ⊥
unfolding code_fits
zero_not (Some m) e = omega (arith, eqb-true 0 (m + 1) e)
zero_not None e = omega (arith, eqb-true 0 7 e)

pub eight_not : (n : Option ℕ) → UpToFive n → code_fits 8 n ≡ true → ⊥
unfolding code_fits
eight_not (Some m) l e = omega (arith, l, eqb-true 8 (m + 1) e)
eight_not None l e = omega (arith, eqb-true 8 7 e)

-- ---- one more word

module _ (codes : List ℕ) (v : length codes ≡ CODES) (i at end w : ℕ) where
  abbrev one : List ℕ
  one = set codes (i * 3) at

  abbrev two : List ℕ
  two = set one (i * 3 + 1) end

  one_long : length one ≡ CODES
  one_long = length-set codes (i * 3) at ∙ v

  two_long : length two ≡ CODES
  two_long = length-set one (i * 3 + 1) end ∙ one_long

  pub with_long : length (with_word codes i at end w) ≡ CODES
  unfolding with_word
  with_long = length-set two (i * 3 + 2) w ∙ two_long

  module _ (l : i < MOST_INGREDIENTS) where
    pub with_starts : get_or (with_word codes i at end w) (i * 3) 0 ≡ at
    unfolding with_word
    with_starts =
        get_or-set_other two (i * 3 + 2) (i * 3) w 0 (λ q. omega arith) ∙ get_or-set_other one (i * 3 + 1) (i * 3) end 0 (λ q. omega arith)
        ∙ get_or-set_same codes (i * 3) at 0 (omega (arith, v, l))

    pub with_ends : get_or (with_word codes i at end w) (i * 3 + 1) 0 ≡ end
    unfolding with_word
    with_ends = get_or-set_other two (i * 3 + 2) (i * 3 + 1) w 0 (λ q. omega arith) ∙ get_or-set_same one (i * 3 + 1) end 0 (omega (arith, one_long, l))

    pub with_says : get_or (with_word codes i at end w) (i * 3 + 2) 0 ≡ w
    unfolding with_word
    with_says = get_or-set_same two (i * 3 + 2) w 0 (omega (arith, two_long, l))

    pub with_others : (k : ℕ) → (k ≡ i * 3 → ⊥) → (k ≡ i * 3 + 1 → ⊥) → (k ≡ i * 3 + 2 → ⊥) → get_or (with_word codes i at end w) k 0 ≡ get_or codes k 0
    unfolding with_word
    with_others k a b c =
        get_or-set_other two (i * 3 + 2) k w 0 (λ q. c (omega arith)) ∙ get_or-set_other one (i * 3 + 1) k end 0 (λ q. b (omega arith))
        ∙ get_or-set_other codes (i * 3) k at 0 (λ q. a (omega arith))
