-- The content of a field that stands escaped in a sheet, as it is read character by character.
use Rattle.std.specs.Prelude.{ℕ, List, [], ◌∷◌, eqb, Option, None, Some}
use Rattle.rules.specs.Basic.{pick, backslash}
use Rattle.rules.specs.Sheet.{escaped, escape}
use Rattle.rules.specs.Text.{retain}
use Rattle.rules.specs.Utf8.{chars, encode}

-- the bytes that a field stands for; a backslash that escapes nothing stands for itself
unfoldable pub pair_or : Option ℕ → List ℕ → List ℕ → List ℕ
pair_or None plain s = backslash ∷ s
pair_or (Some x) plain s = x ∷ plain

unfoldable pub plain_of : List ℕ → List ℕ
plain_of [] = []
plain_of (c ∷ []) = c ∷ []
plain_of (c ∷ d ∷ s) = pick (eqb c backslash) (pair_or (escaped d) (plain_of s) (plain_of (d ∷ s))) (c ∷ plain_of (d ∷ s))

-- the code points of a field
unfoldable pub content_in : List ℕ → List ℕ
content_in f = chars (plain_of f)

-- the same where of blanks that follow one another only the first is kept
unfoldable pub kept_in : List ℕ → List ℕ
kept_in f = retain 0 (content_in f)

-- how a content stands in a field
abbrev pub spell : List ℕ → List ℕ
spell cs = escape (encode cs)
