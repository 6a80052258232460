-- What a cursor in a name has yet to give.
use Rattle.std.specs.Prelude.{ℕ, List, [], ◌∷◌, ◌++◌, drop, None, Option, Some}
use Rattle.rules.specs.Unicode.{fold_name}
use Rattle.content.specs.Contents.{kept_in}
use Rattle.letters.specs.declared.Folded.{Folded}
use Rattle.letters.specs.declared.Folded.TheVariants as folded
use Rattle.text.specs.declared.Pending.{Pending}
use Rattle.text.specs.declared.Pending.TheVariants.{Nothing, One, Two}
use Rattle.text.specs.declared.Cursor.{Cursor}

unfoldable pub pending_of : Pending → List ℕ
pending_of Nothing = []
pending_of (One a) = a ∷ []
pending_of (Two a b) = a ∷ b ∷ []

-- the folding of a field from a place on, its blanks collapsed
unfoldable pub fold_from : List ℕ → ℕ → List ℕ
fold_from s at = fold_name (kept_in (drop at s))

-- what a cursor has yet to give
unfoldable pub rest : List ℕ → Cursor → List ℕ
rest s c = pending_of c.pending ++ fold_from s c.at

-- what a step has given, and what is left after it
unfoldable pub told : List ℕ → Option (ℕ × Cursor) → List ℕ
told s None = []
told s (Some (x, c)) = x ∷ rest s c

-- the cursor at the front of a text
abbrev pub start_cursor : Cursor
start_cursor = record { at = 0; pending = Nothing }

-- the step that gives the first code point of a folding and goes on with the others, then at a place
unfoldable pub step_of : Folded → ℕ → Option (ℕ × Cursor)
step_of (folded.One a) at = Some (a, (record { at = at; pending = Nothing }))
step_of (folded.Two a b) at = Some (a, (record { at = at; pending = One b }))
step_of (folded.Three a b c) at = Some (a, (record { at = at; pending = Two b c }))
