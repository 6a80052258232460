-- The line of a component, and its name in the sheet.
use Rattle.std.specs.Prelude.{Option}
use Prim.Native.Nat.{ℕ, ◌+◌, ◌≤◌}
use mathlib.Core.Path.{◌≡◌, ap, sym, ◌∙◌}
use mathlib.Core.List.{List}
use native.Mathlib.Omega.{arith}
use lib.ListN.{length}
use lib.Seq.{slice, length-slice}
use Rattle.rules.specs.Event as rules
use Rattle.rules.specs.Event.{inside, component_event}
use Rattle.rules.specs.Model.{Kind, ingredient, cookware}
use Rattle.content.specs.Contents as content
use Rattle.content.specs.Parts.{Field}
use Rattle.content.proofs.Plains as plains
use Rattle.parts.specs.Views.{part_of, text_in}
use Rattle.parts.proofs.Contents as parts
use Rattle.components.specs.Views as views
use Rattle.components.specs.declared.ComponentView.{ComponentView}
use Rattle.components.specs.declared.Modifiers.{Modifiers}
use Rattle.events.specs.Views.{component_event_in, ComponentEventWithin}
use Rattle.events.specs.declared.ComponentEvent.TheVariants as event
use Rattle.known_events.specs.Fields.{TextField, ComponentEventFields}
use Rattle.model.specs.Rows.{component_in, component_inside, component_as, component_of_line}
use Rattle.model.specs.Fits.{is_component_of, is_inside_of, is_of_kind, Fits}
use Rattle.model.specs.declared.RelationRecord.{RelationRecord}
use Rattle.model.specs.declared.Row.{Row}
use Rattle.lookup.specs.declared.NamePart.{NamePart}
use Rattle.lookup.specs.Names.{NewName}
use Rattle.lookup.proofs.Names.{part_slice, name_new}
use Rattle.lookup.proofs.Parts.{slice_slice}
use Rattle.new_rows.specs.Rows.{RowMade}
use Rattle.component_lines.specs.Lines.{LineHere}
use Rattle.component_lines.specs.Steps.{ComponentHere, NamePlaced}
use Rattle.components.specs.declared.Intermediate.{Intermediate}

-- ---- the line of each kind

pub ingredient_here : {sheet : List ℕ} {at end : ℕ} {v : ComponentView} (i : Option Intermediate) → LineHere sheet at end (inside (component_event (component_event_in (slice at end sheet) (event.Ingredient v i))))
    → ComponentEventWithin (slice at end sheet) (event.Ingredient v i) → ComponentEventFields (slice at end sheet) (event.Ingredient v i) → ComponentHere ingredient sheet at end v
unfolding is_of_kind is_inside_of is_component_of component_of_line component_in component_inside component_as component_event_in ComponentEventWithin ComponentEventFields
ingredient_here i x w f =
    record { whole = x.whole; short = x.short; is_kind = rw x.is; is = rw x.is; within = w.0; field = f.name }

pub cookware_here : {sheet : List ℕ} {at end : ℕ} {v : ComponentView} → LineHere sheet at end (inside (component_event (component_event_in (slice at end sheet) (event.Cookware v))))
    → ComponentEventWithin (slice at end sheet) (event.Cookware v) → ComponentEventFields (slice at end sheet) (event.Cookware v) → ComponentHere cookware sheet at end v
unfolding is_of_kind is_inside_of is_component_of component_of_line component_in component_inside component_as component_event_in ComponentEventWithin ComponentEventFields
cookware_here x w f =
    record { whole = x.whole; short = x.short; is_kind = rw x.is; is = rw x.is; within = w; field = f.name }

-- ---- the name

module _ {k : Kind} {sheet : List ℕ} {at end : ℕ} {v : ComponentView} (x : ComponentHere k sheet at end v) where
  name_end_lem : at + v.name.content.to ≤ end
  name_end_lem = omega (arith, x.within.name.content.ends, length-slice at end sheet x.whole.most, x.whole.order)

  pub name_ready : (length sheet ≤ 65536) × (v.name.content.from ≤ v.name.content.to) × (at + v.name.content.to ≤ length sheet)
  name_ready = (x.short, x.within.name.content.ordered, omega (arith, name_end_lem, x.whole.most))

  name_part_lem : part_of (slice at end sheet) v.name.content ≡ slice (at + v.name.content.from) (at + v.name.content.to) sheet
  unfolding part_of
  name_part_lem =
      let f = v.name.content.from in
      let t = v.name.content.to in
      let o : f ≤ t = x.within.name.content.ordered in
      part_slice f t (slice at end sheet) o ∙ slice_slice at end f t sheet o name_end_lem

  name_field_lem : Field (slice (at + v.name.content.from) (at + v.name.content.to) sheet)
  unfolding TextField
  name_field_lem = rw name_part_lem at x.field

  pub own_content : (views.component_in (slice at end sheet) v).name.content ≡ content.content_in (slice (at + v.name.content.from) (at + v.name.content.to) sheet)
  unfolding views.component_in text_in
  own_content =
      sym (plains.content_of_lem (part_of (slice at end sheet) v.name.content) (parts.content_of_lem (slice at end sheet) v.name.content x.within.name.content))
      ∙ ap content.content_in name_part_lem

  name_content : (component_of_line k (slice at end sheet)).name.content ≡ content.content_in (slice (at + v.name.content.from) (at + v.name.content.to) sheet)
  name_content = ap (λ (c : rules.Component). c.name.content) x.is ∙ own_content

  -- the row of the component points at its line and its name
  pub row_fits : {p : NamePart} {m : Modifiers} {relation : RelationRecord} {r : Row} → NamePlaced k sheet at v p → RowMade at end p.at p.end m relation r → Fits k sheet r
  row_fits {r = r} n z =
      record {
        line = rw (z.is_line, z.is_end) x.whole;
        is_line = rw (z.is_line, z.is_end) x.is_kind;
        name_at = omega (arith, z.is_line, z.is_name, n.new.least);
        name = omega (arith, z.is_name, z.is_name_end, n.new.order);
        name_end = omega (arith, z.is_end, z.is_name_end, n.new.most, name_end_lem);
        is_name = name_new r n.new name_field_lem z.is_name z.is_name_end (rw (z.is_line, z.is_end) name_content);
      }

pub name_placed : {k : Kind} {sheet : List ℕ} {at : ℕ} {v : ComponentView} {p : NamePart} → NewName k sheet (at + v.name.content.from) (at + v.name.content.to) p → at + v.name.content.to ≤ length sheet → NamePlaced k sheet at v p
name_placed z l = record { new = z; most = omega (arith, z.most, l) }
