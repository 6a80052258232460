-- Where the unit of the quantity of an ingredient's line stands.
use Rattle.std.specs.Prelude.{ℕ, zero, suc, ◌+◌, ◌≤◌, ◌≡◌, List, eqb, length, get_or, Option, None, Some}
use Rattle.rules.specs.Basic.{pick, tab, on_some}
use Rattle.rules.specs.Event.{Text, Quantity}
use Rattle.rules.specs.Read.{Fields, opt, read_text}
use Rattle.rules.specs.Model.{ingredient}
use Rattle.sheet.specs.Lines.{fields_from}
use Rattle.content.specs.Contents.{content_in}
use Rattle.parts.specs.declared.Part.{Part}
use Rattle.parts.specs.Views.{part_of}
use Rattle.model.specs.Rows.{component_of_line}
use Rattle.recall.specs.declared.UnitPlace.{UnitPlace}
use Rattle.recall.specs.declared.UnitPlace.TheVariants.{NoQuantity, NoUnit, At}

-- how many of the n bytes of s from `at` on are tabs
unfoldable pub tabs_in : List ℕ → ℕ → ℕ → ℕ
tabs_in s at zero = 0
tabs_in s at (suc n) = pick (eqb (get_or s (at + n) 0) tab) (tabs_in s at n + 1) (tabs_in s at n)

unfoldable pub content_if : Option Text → Option (List ℕ)
content_if o = on_some (λ (t : Text). t.content) o

-- the content of a quantity's unit, where there is a quantity
unfoldable pub unit_of : Option Quantity → Option (Option (List ℕ))
unit_of o = on_some (λ (q : Quantity). content_if q.unit) o

-- what a place in a line says of it
unfoldable pub unit_as : List ℕ → UnitPlace → Option (Option (List ℕ))
unit_as line NoQuantity = None
unit_as line NoUnit = Some None
unit_as line (At p) = Some (Some (content_in (part_of line p)))

abbrev pub PlaceWithin : List ℕ → UnitPlace → Type 0
PlaceWithin line r = (p : Part) → r ≡ At p → (p.from ≤ p.to) × (p.to ≤ length line)

-- r is the place of the unit of the line's ingredient
pub record UnitRecalled (line : List ℕ) (r : UnitPlace) : Type 0 where
  pub is : unit_of (component_of_line ingredient line).quantity ≡ unit_as line r
  pub within : PlaceWithin line r

-- where an opt text is read at a place, the fields after it start at r
pub record PastText (line : List ℕ) (at r : ℕ) : Type 0 where
  pub is : (o : Option Text) (gs : Fields) → opt read_text (fields_from line at) ≡ Some (o, gs) → fields_from line r ≡ gs

-- where a unit is read at a place, r is its place
pub record UnitRead (line : List ℕ) (at : ℕ) (r : UnitPlace) : Type 0 where
  pub is : (o : Option Text) (gs : Fields) → opt read_text (fields_from line at) ≡ Some (o, gs) → Some (content_if o) ≡ unit_as line r
  pub within : PlaceWithin line r
