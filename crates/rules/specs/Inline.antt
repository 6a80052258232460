-- Quantities inside a text (`find_inline_quantity`), and the split of a text into pieces by them.
use Rattle.std.specs.Prelude.{ℕ, suc, List, [], ◌∷◌, ◌++◌, Bool, ◌&&◌, ◌||◌, not, eqb, leb}
use Rattle.rules.specs.Basic.{pick, minus, point, is_digit, is_empty, is_some}
use Rattle.rules.specs.Unicode.{is_white_space}
use Rattle.rules.specs.Text.{unit_trimmed}
use Rattle.rules.specs.Units.{NamedUnit, find_unit}

-- a text is words, each after blanks (maybe none before the first), and blanks at its end
pub data Words : Type 0 where
  done : List ℕ → Words
  word : List ℕ → List ℕ → Words → Words

unfoldable pub blank_onto : ℕ → Words → Words
blank_onto c (done b) = done (c ∷ b)
blank_onto c (word b w ws) = word (c ∷ b) w ws

unfoldable pub letter_onto : ℕ → Words → Words
letter_onto c (done b) = word [] (c ∷ []) (done b)
letter_onto c (word [] w ws) = word [] (c ∷ w) ws
letter_onto c (word (d ∷ b) w ws) = word [] (c ∷ []) (word (d ∷ b) w ws)

unfoldable pub words_of : List ℕ → Words
words_of [] = done []
words_of (c ∷ s) = pick (is_white_space c) (blank_onto c (words_of s)) (letter_onto c (words_of s))

-- the longest front of a list that passes a test, and what follows it
module _ (passes : ℕ → Bool) where
  unfoldable pub front : List ℕ → List ℕ
  front [] = []
  front (c ∷ s) = pick (passes c) (c ∷ front s) []

  unfoldable pub behind : List ℕ → List ℕ
  behind [] = []
  behind (c ∷ s) = pick (passes c) (behind s) (c ∷ s)

unfoldable pub is_no_digit : ℕ → Bool
is_no_digit c = not (is_digit c)

unfoldable pub is_digit_or_point : ℕ → Bool
is_digit_or_point c = is_digit c || eqb c point

-- a number that starts with a digit and has at most one point is a number of the Rust's
unfoldable pub points : List ℕ → ℕ
points [] = 0
points (c ∷ s) = pick (eqb c point) (suc (points s)) (points s)

unfoldable pub is_number : List ℕ → Bool
is_number n = leb (points n) 1

-- a minus at the end of what stands before the number belongs to the number
unfoldable pub sign : List ℕ → List ℕ
sign [] = []
sign (c ∷ []) = pick (eqb c minus) (minus ∷ []) []
sign (c ∷ d ∷ s) = sign (d ∷ s)

unfoldable pub without_sign : List ℕ → List ℕ
without_sign [] = []
without_sign (c ∷ []) = pick (eqb c minus) [] (c ∷ [])
without_sign (c ∷ d ∷ s) = c ∷ without_sign (d ∷ s)

-- what a text is split into
pub data Piece : Type 0 where
  text_piece : List ℕ → Piece
  quantity_piece : List ℕ → List ℕ → Piece

-- where the search stands after some words: it has passed a text since the last quantity;
-- or it has passed a text that ends with a number, with a part before the number, and the next word is the number's unit
pub data Looking : Type 0 where
  looking : List ℕ → Looking
  awaiting : List ℕ → List ℕ → List ℕ → Looking

-- what a word finds, and where the search stands then
pub record Turn : Type 0 where
  pub found : List Piece
  pub now : Looking

unfoldable pub text_if_any : List ℕ → List Piece
text_if_any [] = []
text_if_any (c ∷ s) = text_piece (c ∷ s) ∷ []

module _ (units : List NamedUnit) where
  -- "It leaves at the first number whose unit is known and starts again after it."
  unfoldable pub try_unit : List ℕ → List ℕ → List ℕ → List ℕ → Turn
  try_unit before number unit passed =
      pick (is_number number && is_some (find_unit unit units))
      (record { found = text_if_any before ++ (quantity_piece number unit ∷ []); now = looking [] })
      (record { found = []; now = looking passed })

  -- a number whose word goes on with its unit, or ends
  unfoldable pub number_word : List ℕ → List ℕ → List ℕ → List ℕ → Turn
  number_word before number unit passed =
      pick (is_empty unit) (record { found = []; now = awaiting before number passed }) (try_unit before number (unit_trimmed unit) passed)

  -- the word from its first digit on
  unfoldable pub digit_word : List ℕ → List ℕ → List ℕ → List ℕ → Turn
  digit_word text lead from_digit passed =
      pick (is_empty from_digit) (record { found = []; now = looking passed })
      (number_word (text ++ without_sign lead) (sign lead ++ front is_digit_or_point from_digit) (behind is_digit_or_point from_digit) passed)

  unfoldable pub turn : Looking → List ℕ → List ℕ → Turn
  turn (looking text) b w = digit_word (text ++ b) (front is_no_digit w) (behind is_no_digit w) (text ++ b ++ w)
  turn (awaiting before number passed) b w = try_unit before number (unit_trimmed w) (passed ++ b ++ w)

  unfoldable pub rest : Looking → List ℕ → List Piece
  rest (looking text) b = text_if_any (text ++ b)
  rest (awaiting before number passed) b = text_if_any (passed ++ b)

  unfoldable pub pieces_from : Looking → Words → List Piece
  pieces_from l (done b) = rest l b
  pieces_from l (word b w ws) = (turn l b w).found ++ pieces_from (turn l b w).now ws

  -- the pieces of a text, in order; texts between quantities that are empty are none
  unfoldable pub inline_pieces : List ℕ → List Piece
  inline_pieces t = pieces_from (looking []) (words_of t)
