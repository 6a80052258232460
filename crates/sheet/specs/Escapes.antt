-- What is said of a field that is read without its escapes.
use Rattle.std.specs.Prelude.{ℕ, ◌≡◌, List, ◌++◌, leb, length, drop, Option, None, Some, Result, Ok, Err}
use Rattle.rules.specs.Basic.{pick}
use Rattle.rules.specs.Sheet.{unescape}
use Rattle.sheet.specs.declared.NotUnescaped.{NotUnescaped}
use Rattle.sheet.specs.declared.NotUnescaped.TheVariants.{Ill, NoRoom}

-- the answer for a text where there is room for m bytes
unfoldable pub room_for : Option (List ℕ) → ℕ → Result ℕ NotUnescaped
room_for None m = Err Ill
room_for (Some t) m = pick (leb (length t) m) (Ok (length t)) (Err NoRoom)

-- what a buffer holds then: the text in front of what it held, where there is a text and it fits
unfoldable pub held_after : Option (List ℕ) → List ℕ → List ℕ
held_after None o = o
held_after (Some t) o = pick (leb (length t) (length o)) (t ++ drop (length t) o) o

-- what `unescape_into` does with a buffer that held o₀: r is its answer, and o what the buffer holds then
pub record Unescapes (f o₀ o : List ℕ) (r : Result ℕ NotUnescaped) : Type 0 where
  pub answer : r ≡ room_for (unescape f) (length o₀)
  pub bytes : o ≡ held_after (unescape f) o₀
