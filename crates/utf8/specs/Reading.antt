-- What `Char` stands for: the code point that bytes start with, as the rules read any bytes.
use Rattle.std.specs.Prelude.{ℕ, suc, List, [], ◌∷◌, None}
use Rattle.rules.specs.Utf8.{first_of, char_or, followers}
use Rattle.utf8.specs.declared.Char.{Char}

-- its code point and how many bytes it takes; no bytes: none
unfoldable pub char_of : List ℕ → Char
char_of [] = record { code = char_or None; size = 0 }
char_of (a ∷ s) = record { code = char_or (first_of a s); size = suc (followers a (first_of a s)) }
