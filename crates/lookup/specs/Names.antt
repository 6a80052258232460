-- The names of components in work memory, and what the same-name search finds among them.
use Rattle.std.specs.Prelude.{ℕ, zero, suc, ◌≤◌, ◌<◌, ◌≡◌, List, Bool, ◌&&◌, ◌||◌, not, length, Option, None, Some}
use Rattle.std.proofs.Math.Seq.{slice}
use Rattle.rules.specs.Basic.{pick, eq_list, on_some}
use Rattle.rules.specs.Text.{text_outer_trimmed}
use Rattle.rules.specs.Unicode.{fold_name}
use Rattle.rules.specs.Event.{Component}
use Rattle.rules.specs.Model.{Kind, Entry, entry_of}
use Rattle.rules.specs.Reference.{Earlier, eq_bool, same_name_of}
use Rattle.rules.specs.State.{table_of}
use Rattle.content.specs.Contents.{content_in, kept_in}
use Rattle.content.specs.Parts.{Field}
use Rattle.model.specs.Rows.{row_on, entry_in}
use Rattle.model.specs.Memory.{rows_in, count_of, referrers_of, state_in}
use Rattle.model.specs.declared.Row.{Row}
use Rattle.model.specs.declared.Held.{Held}
use Rattle.lookup.specs.declared.NamePart.{NamePart}

-- ---- the names of rows

-- the part of the sheet where a row has its name
abbrev pub name_part : List ℕ → Row → List ℕ
name_part sheet r = slice r.name_at r.name_end sheet

-- it is a part of the sheet
pub record NameInside (sheet : List ℕ) (r : Row) : Type 0 where
  pub order : r.name_at ≤ r.name_end
  pub most : r.name_end ≤ length sheet

-- the names of the first n rows are parts of it
pub record NamesInside (sheet rows : List ℕ) (n : ℕ) : Type 0 where
  pub at : (i : ℕ) → i < n → NameInside sheet (row_on rows i)

-- ---- the search over rows, from the newest back

module _ (sheet folded : List ℕ) (any_opt is_opt : Bool) where
  unfoldable pub row_fits : Row → Bool
  row_fits r = not r.reference && (any_opt || eq_bool r.opt is_opt) && eq_list (fold_name (kept_in (name_part sheet r))) folded

  module _ (rows : List ℕ) where
    unfoldable pub same_row : ℕ → Option ℕ
    same_row zero = None
    same_row (suc i) = pick (row_fits (row_on rows i)) (Some i) (same_row i)

-- ---- an entry of a table and its index

unfoldable pub earlier_in : Kind → List ℕ → List ℕ → (ℕ → List ℕ) → ℕ → Earlier
earlier_in k sheet rows by i = record { index = i; entry = entry_in k sheet rows by i }

abbrev pub earlier_at : Kind → List ℕ → List ℕ → Held → ℕ → Earlier
earlier_at k sheet w h i = earlier_in k sheet (rows_in k w) (referrers_of k w h) i

-- r is what the same-name search finds in the table of a kind for a new entry of that name
pub record SameFound (k : Kind) (sheet w : List ℕ) (h : Held) (name : List ℕ) (any_opt is_opt : Bool) (r : Option ℕ) : Type 0 where
  pub is : (new : Entry) → new.name ≡ kept_in name → new.modifiers.opt ≡ is_opt
      → on_some (earlier_at k sheet w h) r ≡ same_name_of any_opt new (table_of k (state_in sheet w h))
  pub below : (i : ℕ) → r ≡ Some i → i < count_of k h

-- ---- the name of a new component

-- p is the part of a field that trimming leaves
pub record TrimmedAt (f : List ℕ) (p : NamePart) : Type 0 where
  pub order : p.at ≤ p.end
  pub most : p.end ≤ length f
  pub is : content_in (slice p.at p.end f) ≡ text_outer_trimmed (content_in f)
  pub field : Field f → Field (slice p.at p.end f)

-- p is the part of the sheet with the name of a component whose name is written at from to to
pub record NewName (k : Kind) (sheet : List ℕ) (from to : ℕ) (p : NamePart) : Type 0 where
  pub least : from ≤ p.at
  pub order : p.at ≤ p.end
  pub most : p.end ≤ to
  pub is : (in_step : Bool) (c : Component) → c.name.content ≡ content_in (slice from to sheet) → kept_in (slice p.at p.end sheet) ≡ (entry_of k in_step c).name
  pub field : Field (slice from to sheet) → Field (slice p.at p.end sheet)
