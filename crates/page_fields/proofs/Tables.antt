-- The lines of a table, one after another.
use Prim.Native.Nat.{ℕ}
use mathlib.Core.Path.{◌≡◌, refl, ◌∙◌}
use mathlib.Core.List.{List, [], ◌∷◌, ◌++◌, append-nil, append_assoc}
use lib.ListN.{length}
use Rattle.rules.specs.Page.{lines_onto, table_lines}

module _ {A : Type 0} (line : ℕ → A → List ℕ) where
  onto_lines : (table : List A) (rest : List ℕ) → lines_onto line table rest ≡ table_lines line table ++ rest
  unfolding lines_onto table_lines
  onto_lines [] rest = refl
  onto_lines (a ∷ before) rest =
      rw (onto_lines before (line (length before) a ++ rest), onto_lines before (line (length before) a ++ []), append-nil, append_assoc)

  pub lines_none : table_lines line [] ≡ []
  unfolding table_lines lines_onto
  lines_none = refl

  -- the newest entry's line is the last
  pub lines_more : (a : A) (before : List A) → table_lines line (a ∷ before) ≡ table_lines line before ++ line (length before) a
  unfolding table_lines lines_onto
  lines_more a before = onto_lines before (line (length before) a ++ []) ∙ rw append-nil
