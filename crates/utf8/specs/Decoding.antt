-- The character that bytes start with, by the rules.
use Rattle.std.specs.Prelude.{ℕ, List, [], ◌∷◌, Option, None, Some}
use Rattle.rules.specs.Utf8.{size_of, first_of}
use Rattle.utf8.specs.declared.Char.{Char}

-- the code point c, in n bytes
abbrev pub char_with : ℕ → ℕ → Char
char_with c n = record { code = c; size = n }

-- a character of n bytes, if there is one
unfoldable pub decoded_as : ℕ → Option ℕ → Option Char
decoded_as n None = None
decoded_as n (Some c) = Some (char_with c n)

unfoldable pub decoded_of : List ℕ → Option Char
decoded_of [] = None
decoded_of (a ∷ s) = decoded_as (size_of a) (first_of a s)

-- how many bytes it takes; 0: there is none
unfoldable pub decoded_size : Option Char → ℕ
decoded_size None = 0
decoded_size (Some ch) = ch.size
