-- What the functions of intermediate references stand for.
use Rattle.std.specs.Prelude.{ℕ, ◌≡◌, Bool, List, [], length, Option, Result}
use Rattle.rules.specs.Event as rules
use Rattle.rules.specs.Model.{ingredient, definition}
use Rattle.rules.specs.Checks.{resolve_intermediate_ref, intermediate_modifiers, intermediate_relation}
use Rattle.rules.specs.Components.{intermediate_fault}
use Rattle.refusals.specs.declared.Reason.{Reason}
use Rattle.refusals.specs.Told.{number_told}
use Rattle.parts.specs.Views.{span_in}
use Rattle.parts.specs.declared.Span.{Span}
use Rattle.components.specs.Views.{modifiers_in, intermediate_in, opt_intermediate_in}
use Rattle.components.specs.declared.Modifiers.{Modifiers}
use Rattle.components.specs.declared.Intermediate.{Intermediate}
use Rattle.model.specs.Rows.{relation_in, if_found}
use Rattle.model.specs.declared.Noted.{Noted}
use Rattle.model.specs.Memory.{state_in}
use Rattle.model.specs.declared.RelationRecord.{RelationRecord}
use Rattle.model.specs.declared.Held.{Held}

-- 15 and 16
pub record Faulted (ref : Bool) (i : Option Intermediate) (r : Result (Unit {0}) Reason) : Type 0 where
  pub is : (c : rules.Component) → c.modifiers.ref ≡ ref → intermediate_fault c (opt_intermediate_in i) ≡ number_told r

-- 7
pub record ModifiersReported (m : Modifiers) (at : Span) (r : Option Noted) : Type 0 where
  pub is : (c : rules.Component) → c.modifiers ≡ modifiers_in m → c.modifiers_span ≡ span_in at → if_found r ≡ intermediate_modifiers c

-- the target in the state that memory stands for
pub record Resolved (i : Intermediate) (w : List ℕ) (h : Held) (r : Option ℕ) : Type 0 where
  pub is : (sheet : List ℕ) → r ≡ resolve_intermediate_ref (intermediate_in i) (state_in sheet w h).place.section.content (length (state_in sheet w h).kept.sections)

-- the relation of a new ingredient
pub record Related (i : Intermediate) (in_step : Bool) (target : Option ℕ) (r : RelationRecord) : Type 0 where
  pub is : relation_in ingredient r [] ≡ intermediate_relation (intermediate_in i) (definition in_step []) target
