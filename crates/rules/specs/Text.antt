-- Trimming (src/text.rs), over code points.
use Rattle.std.specs.Prelude.{ℕ, List, [], ◌∷◌, Bool, ◌&&◌, not, eqb}
use Rattle.rules.specs.Basic.{pick, blank}
use Rattle.rules.specs.Unicode.{is_white_space, is_alphabetic}

-- `str::trim_matches`: what the test drops goes from both ends
module _ (drops : ℕ → Bool) where
  unfoldable pub trim_start : List ℕ → List ℕ
  trim_start [] = []
  trim_start (c ∷ s) = pick (drops c) (trim_start s) (c ∷ s)

  -- c before a text that is trimmed at its end
  unfoldable pub trim_onto : ℕ → List ℕ → List ℕ
  trim_onto c [] = pick (drops c) [] (c ∷ [])
  trim_onto c (d ∷ s) = c ∷ d ∷ s

  unfoldable pub trim_end : List ℕ → List ℕ
  trim_end [] = []
  trim_end (c ∷ s) = trim_onto c (trim_end s)

  unfoldable pub trim_matches : List ℕ → List ℕ
  trim_matches s = trim_end (trim_start s)

-- `text_outer_trimmed`
unfoldable pub text_outer_trimmed : List ℕ → List ℕ
text_outer_trimmed s = trim_matches is_white_space s

-- the closure of `text_trimmed`: a U+0020 after a U+0020 goes; `prev` is the character before
unfoldable pub retain : ℕ → List ℕ → List ℕ
retain prev [] = []
retain prev (c ∷ s) = pick (eqb c blank && eqb prev blank) (retain c s) (c ∷ retain c s)

-- `text_trimmed`
unfoldable pub text_trimmed : List ℕ → List ℕ
text_trimmed s = retain blank (text_outer_trimmed s)

-- what `find_inline_quantity` does to a unit: `unit.trim_matches(|c| !c.is_alphabetic())`
unfoldable pub is_not_alphabetic : ℕ → Bool
is_not_alphabetic c = not (is_alphabetic c)

unfoldable pub unit_trimmed : List ℕ → List ℕ
unit_trimmed s = trim_matches is_not_alphabetic s
