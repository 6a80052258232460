-- The words of earlier ingredients' units: 1 to 5 for the code of a physical quantity, 6 for a unit that is not in the list, 7 for
-- none, 8 where there is no quantity; from 16 on the place of a unit that is not in the list.
use Rattle.std.specs.Prelude.{ℕ, ◌+◌, ◌*◌, ◌/◌, ◌%◌, ◌≤◌, ◌≡◌, Bool, false, ◌&&◌, List, eqb, ltb, get_or, set, Option, None, Some}
use Rattle.rules.specs.Basic.{pick}
use Rattle.parts.specs.declared.Part.{Part}

-- the code that a kept word says: the word itself below 16, else 6
unfoldable pub code_in : ℕ → ℕ
code_in w = pick (ltb w 16) w 6

-- where the content of a unit starts in its line, by a word from 16 on
unfoldable pub start_in : ℕ → ℕ
start_in w = w / 65536

-- where it ends
unfoldable pub end_in : ℕ → ℕ
end_in w = w % 65536

-- w is a word of a unit that is not in the list and stands at p
pub record PlaceWord (p : Part) (w : ℕ) : Type 0 where
  pub is : code_in w ≡ 6
  pub start : 16 ≤ w → start_in w ≡ p.from
  pub end : 16 ≤ w → end_in w ≡ p.to

-- the word kept for the row i, where it is that of the line from `at` to `end`; else 0
unfoldable pub kept_word : List ℕ → ℕ → ℕ → ℕ → ℕ
kept_word codes i at end = pick (eqb (get_or codes (i * 3) 0) at) (pick (eqb (get_or codes (i * 3 + 1) 0) end) (get_or codes (i * 3 + 2) 0) 0) 0

-- the words with one for the row i
unfoldable pub with_word : List ℕ → ℕ → ℕ → ℕ → ℕ → List ℕ
with_word codes i at end w = set (set (set codes (i * 3) at) (i * 3 + 1) end) (i * 3 + 2) w

-- ---- a new unit: n is the number of its physical quantity, where there is a unit

-- that number is 5 at most
abbrev pub UpToFive : Option ℕ → Type 0
UpToFive None = Unit {0}
UpToFive (Some m) = m ≤ 5

-- whether it is in no list: the number is 5 (`unit_code` of crates/compatible)
unfoldable pub is_unlisted : Option ℕ → Bool
is_unlisted None = false
is_unlisted (Some m) = eqb m 5

-- whether a line with the code o fits it
unfoldable pub code_fits : ℕ → Option ℕ → Bool
code_fits o None = eqb o 7
code_fits o (Some m) = eqb o (m + 1)

-- the same where the two need not be compared as they are written
unfoldable pub known_fits : ℕ → Option ℕ → Bool
known_fits o n = pick (eqb o 6 && is_unlisted n) false (code_fits o n)
