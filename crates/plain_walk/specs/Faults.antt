-- What the functions that look for a fault are given, and what they answer.
use Rattle.std.specs.Prelude.{ℕ, ◌+◌, ◌≡◌, List, Bool, Option, Result}
use Rattle.rules.specs.Model.{ingredient, cookware}
use Rattle.refusals.specs.Told.{number_told}
use Rattle.refusals.specs.declared.Reason.{Reason}
use Rattle.events.specs.Views.{component_event_in, event_in}
use Rattle.events.specs.declared.ComponentEvent.{ComponentEvent}
use Rattle.events.specs.declared.ComponentEvent.TheVariants as component
use Rattle.events.specs.declared.Inside.{Inside}
use Rattle.events.specs.declared.Inside.TheVariants as inside
use Rattle.events.specs.declared.EventView.{EventView}
use Rattle.events.specs.declared.EventView.TheVariants as event
use Rattle.model.specs.Rows.{HasRow}
use Rattle.model.specs.Memory.{rows_in}
use Rattle.model.specs.declared.Open.{Open}
use Rattle.model.specs.declared.Open.TheVariants as block
use Rattle.lookup.specs.Names.{NamesInside}
use Rattle.following.specs.declared.Follow.{Follow}
use Rattle.plain_walk.specs.Rows.{implicit_row, last_row, fault_as, mark_fault_in, fault_in}

-- row n is there, and it and those before it have their names in the sheet
pub record RowNamed (sheet rows : List ℕ) (n : ℕ) : Type 0 where
  pub row : HasRow rows n
  pub names : NamesInside sheet rows (n + 1)

-- ---- a component's line in a step has its row

module _ (sheet w : List ℕ) where
  unfoldable pub ComponentReady : ComponentEvent → Follow → Type 0
  ComponentReady (component.Ingredient v i) f = RowNamed sheet (rows_in ingredient w) f.ingredients
  ComponentReady (component.Cookware v) f = RowNamed sheet (rows_in cookware w) f.cookware
  ComponentReady (component.Timer s n q) f = Unit

  unfoldable pub BlockReady : ComponentEvent → Open → Follow → Type 0
  BlockReady c block.Nothing f = Unit
  BlockReady c block.Step f = ComponentReady c f
  BlockReady c block.Text f = Unit
  BlockReady c block.TextMode f = Unit

  unfoldable pub InsideReady : Inside → Follow → Type 0
  InsideReady (inside.End k) f = Unit
  InsideReady (inside.Text t) f = Unit
  InsideReady (inside.Component c) f = BlockReady c f.block f

  unfoldable pub EventReady : EventView → Follow → Type 0
  EventReady (event.Between b) f = Unit
  EventReady (event.Inside i) f = InsideReady i f
  EventReady (event.Finding s n) f = Unit

-- ---- answers

-- what row n refers to without REF
pub record ImplicitFound (rows : List ℕ) (ref : Bool) (n : ℕ) (r : Option ℕ) : Type 0 where
  pub is : r ≡ implicit_row rows ref n

-- 23, where the line of row n refers to `to` without REF
pub record RowFault (sheet rows : List ℕ) (n : ℕ) (to : Option ℕ) (r : Result (Unit {0}) Reason) : Type 0 where
  pub is : number_told r ≡ fault_as to (last_row rows sheet n)

-- 22 or 23 of a component in a step, and of any line; what the line's contents are does not matter
pub record StepFault (sheet w : List ℕ) (c : ComponentEvent) (f : Follow) (r : Result (Unit {0}) Reason) : Type 0 where
  pub at : (line : List ℕ) → number_told r ≡ mark_fault_in w sheet (component_event_in line c) f

pub record LineFault (sheet w : List ℕ) (e : EventView) (f : Follow) (r : Result (Unit {0}) Reason) : Type 0 where
  pub at : (line : List ℕ) → number_told r ≡ fault_in w sheet (event_in line e) f
