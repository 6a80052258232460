-- What the rows of work memory point at in the sheet.
use Rattle.std.specs.Prelude.{ℕ, ◌≤◌, ◌<◌, ◌≡◌, List, [], ◌∷◌, Bool, true, false, length, get_or, Option, None, Some}
use Rattle.std.proofs.Math.Seq.{slice}
use Rattle.rules.specs.Basic.{on_some, lf}
use Rattle.rules.specs.Text.{retain}
use Rattle.rules.specs.Event.{Event, inside, between, parser_event, Inside, component_event, text_event, end_event, ComponentEvent, ingredient_event, cookware_event, timer_event}
use Rattle.rules.specs.Read.{content_of, parse_line}
use Rattle.rules.specs.Model.{Kind, ingredient, cookware}
use Rattle.rules.specs.Sheet.{Without}
use Rattle.model.specs.Rows.{row_on, entry_as}
use Rattle.model.specs.Memory.{rows_in, count_of}
use Rattle.model.specs.declared.Row.{Row}
use Rattle.model.specs.declared.Held.{Held}

-- ---- a line that is a component of a kind

unfoldable pub is_component_of : Kind → ComponentEvent → Bool
is_component_of ingredient (ingredient_event c i) = true
is_component_of ingredient (cookware_event c) = false
is_component_of ingredient (timer_event s n q) = false
is_component_of cookware (ingredient_event c i) = false
is_component_of cookware (cookware_event c) = true
is_component_of cookware (timer_event s n q) = false

unfoldable pub is_inside_of : Kind → Inside → Bool
is_inside_of k (component_event c) = is_component_of k c
is_inside_of k (text_event t) = false
is_inside_of k (end_event b) = false

unfoldable pub is_of_kind : Kind → Option Event → Bool
is_of_kind k None = false
is_of_kind k (Some (inside i)) = is_inside_of k i
is_of_kind k (Some (between b)) = false
is_of_kind k (Some (parser_event s n)) = false

-- ---- a line of the sheet

-- it stands from at to end: an LF before it, or nothing; none in it; an LF after it
pub record WholeLine (sheet : List ℕ) (at end : ℕ) : Type 0 where
  pub order : at ≤ end
  pub most : end ≤ length sheet
  pub begins : get_or (lf ∷ sheet) at 0 ≡ lf
  pub no_lf : Without lf (slice at end sheet)
  pub ends : get_or sheet end 0 ≡ lf

-- ---- rows

-- what a row points at: a line of the sheet that is a component of the kind, and in it the component's name after its path, still
-- escaped. A U+0020 after a U+0020 goes as it is read (`retain`); no name begins after one
pub record Fits (k : Kind) (sheet : List ℕ) (r : Row) : Type 0 where
  pub line : WholeLine sheet r.line_at r.line_end
  pub is_line : is_of_kind k (parse_line (slice r.line_at r.line_end sheet)) ≡ true
  pub name_at : r.line_at ≤ r.name_at
  pub name : r.name_at ≤ r.name_end
  pub name_end : r.name_end ≤ r.line_end
  pub is_name : on_some (retain 0) (content_of (slice r.name_at r.name_end sheet)) ≡ Some (entry_as k sheet r []).name

-- all of the first n rows
pub record EachRow (P : Row → Type 0) (rows : List ℕ) (n : ℕ) : Type 0 where
  pub at : (i : ℕ) → i < n → P (row_on rows i)

-- all rows of work memory point into the sheet
pub record AllFit (sheet w : List ℕ) (h : Held) : Type 0 where
  pub rows : (k : Kind) → EachRow (Fits k sheet) (rows_in k w) (count_of k h)
