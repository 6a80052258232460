-- Letter classes and case folding of Unicode 16.0.0 (document 01, "From leaves to collector").
use Rattle.std.specs.Prelude.{ℕ, List, [], ◌∷◌, ◌++◌, Bool, ◌||◌}
use Rattle.rules.specs.Basic.{eq_list}
use Rattle.rules.specs.Ranges.{member, lookup}
use Rattle.rules.specs.Alphabetic.{alphabetic}
use Rattle.rules.specs.Numeric.{numeric}
use Rattle.rules.specs.WhiteSpace.{white_space}
use Rattle.rules.specs.Folding.{folding}

-- "`is_alphabetic`, `is_alphanumeric` and `is_whitespace` follow Unicode 16.0.0:
-- Alphabetic; Alphabetic or category Nd, Nl or No; White_Space."
unfoldable pub is_alphabetic : ℕ → Bool
is_alphabetic c = member c alphabetic

unfoldable pub is_numeric : ℕ → Bool
is_numeric c = member c numeric

unfoldable pub is_alphanumeric : ℕ → Bool
is_alphanumeric c = is_alphabetic c || is_numeric c

unfoldable pub is_white_space : ℕ → Bool
is_white_space c = member c white_space

-- the folding of one code point, and of a name
unfoldable pub fold : ℕ → List ℕ
fold c = lookup c folding

unfoldable pub fold_name : List ℕ → List ℕ
fold_name [] = []
fold_name (c ∷ cs) = fold c ++ fold_name cs

-- "Names are equal when their foldings by the C and F lines of Unicode's CaseFolding 16.0.0 are equal"
unfoldable pub same_name : List ℕ → List ℕ → Bool
same_name a b = eq_list (fold_name a) (fold_name b)
