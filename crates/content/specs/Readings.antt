-- What the characters that are read stand for.
use Rattle.std.specs.Prelude.{ℕ, Bool, not, ◌&&◌, List, [], ◌∷◌, eqb, ltb, Option, None, Some}
use Rattle.rules.specs.Basic.{pick, backslash, blank}
use Rattle.rules.specs.Sheet.{escaped}
use Rattle.utf8.specs.declared.Char.{Char}
use Rattle.utf8.specs.Reading.{char_of}

-- a backslash before what stands for a character, or alone
unfoldable pub pair_in : Option ℕ → Char
pair_in None = record { code = backslash; size = 1 }
pair_in (Some x) = record { code = x; size = 2 }

-- the character that a field starts with, and how many bytes of the field it takes
unfoldable pub char_in : List ℕ → Char
char_in [] = char_of []
char_in (a ∷ []) = char_of (a ∷ [])
char_in (a ∷ d ∷ s) = pick (eqb a backslash) (pair_in (escaped d)) (char_of (a ∷ d ∷ s))

-- a byte that is a character by itself, and kept: ASCII, no backslash and no blank
unfoldable pub plain_byte : ℕ → Bool
plain_byte b = ltb b 128 && not (eqb b backslash) && not (eqb b blank)

unfoldable pub same_plain : ℕ → ℕ → Bool
same_plain a b = eqb a b && plain_byte a
