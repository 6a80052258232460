-- What the unit check of a row answers, and all checks after a reference leave in work memory.
use Rattle.std.specs.Prelude.{ℕ, reverse, ◌-◌, ◌<◌, ◌≡◌, List, [], Bool, true, ◌&&◌, not, eqb, take, drop, Option, None, Some}
use Rattle.rules.specs.Basic.{pick, is_some, on_some}
use Rattle.rules.specs.Units.{NamedUnit}
use Rattle.rules.specs.Modes.{has_advanced_units}
use Rattle.rules.specs.Event.{Text, Quantity}
use Rattle.rules.specs.Model.{Kind, ingredient, is_ingredient, trimmed_text, amount_of, source_of, Entry}
use Rattle.rules.specs.Reference.{entry_at}
use Rattle.rules.specs.Checks.{is_defined_in_step, compatible_unit, unit_against, units_against, unit_check, reference_checks}
use Rattle.rules.specs.Components.{checks_after}
use Rattle.rules.specs.State.{table_of}
use Rattle.compatible.specs.Fitting.{trimmed_in}
use Rattle.unit_checks.specs.Codes.{new_text, NewCode}
use Rattle.parts.specs.Views.{opt_quantity_in, OptQuantityWithin}
use Rattle.components.specs.declared.ComponentView.{ComponentView}
use Rattle.components.specs.Views.{component_in}
use Rattle.model.specs.Rows.{component_of_line, relation_in, if_found}
use Rattle.model.specs.Memory.{count_of, row_in, referrers_of, state_in}
use Rattle.model.specs.declared.RelationRecord.{RelationRecord}
use Rattle.model.specs.declared.Row.{Row}
use Rattle.model.specs.declared.Noted.{Noted}
use Rattle.model.specs.declared.Held.{Held}
use Rattle.memory.specs.Reports.{Reported}
use Rattle.lookup.specs.Names.{earlier_at}
use Rattle.parts.specs.declared.QuantityView.{QuantityView}

-- whether the entry of a relation is defined in a step
pub record InStep (r : RelationRecord) (b : Bool) : Type 0 where
  pub is : (k : Kind) (by : List ℕ) → is_defined_in_step (relation_in k r by) ≡ b

-- what is referred to is there
pub record SameBelow (k : Kind) (h : Held) (to : Option ℕ) : Type 0 where
  pub below : (i : ℕ) → to ≡ Some i → i < count_of k h

-- a new entry with the quantity of a line
pub record QuantityOf (new : Entry) (k : Kind) (line : List ℕ) (a : Option QuantityView) : Type 0 where
  pub is_source : new.source.quantity ≡ opt_quantity_in line a
  pub is_amount : new.quantity ≡ on_some (amount_of (is_ingredient k)) (opt_quantity_in line a)

-- whether a quantity has a unit, and its field in the line
pub record HasUnit (a : Option QuantityView) (r : Bool) : Type 0 where
  pub is : (line : List ℕ) (q : Quantity) → opt_quantity_in line a ≡ Some q → is_some q.unit ≡ r

pub record UnitField (line : List ℕ) (a : Option QuantityView) (f : List ℕ) : Type 0 where
  pub is : OptQuantityWithin line a → (q : Quantity) (t : Text) → opt_quantity_in line a ≡ Some q → q.unit ≡ Some t → trimmed_text t ≡ trimmed_in f

-- the number of its physical quantity, where there is a unit: x is the field, trimmed
pub record NumberRead (us : List NamedUnit) (a : Option QuantityView) (x : List ℕ) (n : Option ℕ) : Type 0 where
  pub has : HasUnit a (is_some n)
  pub code : NewCode us x n

-- what a new unit is compared by: its field, that trimmed, and the number of its physical quantity, where there is one
pub record UnitKnown (us : List NamedUnit) (line : List ℕ) (a : Option QuantityView) (f x : List ℕ) (n : Option ℕ) : Type 0 where
  pub is : (q : Quantity) → opt_quantity_in line a ≡ Some q → on_some trimmed_text q.unit ≡ new_text n f
  pub code : NewCode us x n

-- the line that a row points at
abbrev row_line : List ℕ → Row → List ℕ
row_line sheet r = take (r.line_end - r.line_at) (drop r.line_at sheet)

-- whether a quantity, where there is one, draws nothing beside a unit, or none
unfoldable pub fits_unit : List NamedUnit → Option Quantity → Option (List ℕ) → Bool
fits_unit us None b = true
fits_unit us (Some q) b = eqb (compatible_unit us (on_some trimmed_text q.unit) b) 0

-- the same of the row i: the quantity is that of its line
unfoldable pub fits_row : List NamedUnit → List ℕ → List ℕ → ℕ → Option (List ℕ) → Bool
fits_row us sheet w i b = fits_unit us (component_of_line ingredient (row_line sheet (row_in ingredient w i))).quantity b

-- whatever else the new entry is: its unit against that of the row i, where there is one
pub record RowChecked (us : List NamedUnit) (sheet line : List ℕ) (a : Option QuantityView) (i : ℕ) (w : List ℕ) (h : Held) (r : Option Noted) : Type 0 where
  pub is : (new : Entry) → QuantityOf new ingredient line a → if_found r ≡ unit_against us new (entry_at i (table_of ingredient (state_in sheet w h)))

-- against those of all rows that refer to the row d
pub record ReferrersChecked (us : List NamedUnit) (sheet line : List ℕ) (a : Option QuantityView) (d : ℕ) (w₀ : List ℕ) (h₀ : Held) (w : List ℕ) (h : Held) : Type 0 where
  pub is : (new : Entry) → QuantityOf new ingredient line a
      → Reported (units_against us new (table_of ingredient (state_in sheet w₀ h₀)) (reverse (referrers_of ingredient w₀ h₀ d))) w₀ h₀ w h

-- 15 to 17: the definition at d, then each of its references
pub record UnitChecked (us : List NamedUnit) (sheet line : List ℕ) (a : Option QuantityView) (d : ℕ) (w₀ : List ℕ) (h₀ : Held) (w : List ℕ) (h : Held) : Type 0 where
  pub is : (new : Entry) → new.source.quantity ≡ opt_quantity_in line a → new.quantity ≡ on_some (amount_of true) (opt_quantity_in line a)
      → Reported (unit_check us new (table_of ingredient (state_in sheet w₀ h₀)) (earlier_at ingredient sheet w₀ h₀ d)) w₀ h₀ w h

-- they are for ingredients, with flag 4
pub record UnitsAfter (us : List NamedUnit) (flags : ℕ) (k : Kind) (sheet line : List ℕ) (a : Option QuantityView) (d : ℕ) (w₀ : List ℕ) (h₀ : Held) (w : List ℕ) (h : Held) : Type 0 where
  pub is : (new : Entry) → QuantityOf new k line a
      → Reported (pick (is_ingredient k && has_advanced_units flags) (unit_check us new (table_of k (state_in sheet w₀ h₀)) (earlier_at k sheet w₀ h₀ d)) []) w₀ h₀ w h

-- a new entry that is the component of a line
pub record NewOf (new : Entry) (k : Kind) (line : List ℕ) (v : ComponentView) : Type 0 where
  pub is_source : new.source ≡ source_of (component_in line v)
  pub is_amount : new.quantity ≡ on_some (amount_of (is_ingredient k)) (opt_quantity_in line v.quantity)
  pub is_ref : new.modifiers.ref ≡ v.modifiers.reference

-- 18 to 20
pub record EntryChecked (k : Kind) (sheet line : List ℕ) (v : ComponentView) (d : ℕ) (w₀ : List ℕ) (h₀ : Held) (w : List ℕ) (h : Held) : Type 0 where
  pub is : (new : Entry) → NewOf new k line v → Reported (reference_checks (not new.modifiers.ref) new (earlier_at k sheet w₀ h₀ d).entry) w₀ h₀ w h

-- 15 to 20, after a reference to a row or to none
pub record ChecksDone (us : List NamedUnit) (flags : ℕ) (k : Kind) (sheet line : List ℕ) (v : ComponentView) (to : Option ℕ) (w₀ : List ℕ) (h₀ : Held) (w : List ℕ) (h : Held) : Type 0 where
  pub is : (new : Entry) → new.source ≡ source_of (component_in line v) → new.quantity ≡ on_some (amount_of (is_ingredient k)) (opt_quantity_in line v.quantity)
      → new.modifiers.ref ≡ v.modifiers.reference
      → Reported (checks_after us flags k new (table_of k (state_in sheet w₀ h₀)) (on_some (earlier_at k sheet w₀ h₀) to)) w₀ h₀ w h
