-- A line that is a component, read again.
use Prim.Native.Nat.{ℕ}
use mathlib.Core.Path.{◌≡◌, refl, sym}
use mathlib.Core.Bool.{true, false}
use Rattle.std.specs.Prelude.{Some}
use mathlib.Core.List.{List}
use Rattle.rules.specs.Read.{parse_line}
use Rattle.rules.specs.Model.{Kind, ingredient, cookware}
use Rattle.rules.proofs.Basics.{no_truth}
use Rattle.components.specs.declared.ComponentView.{ComponentView}
use Rattle.components.specs.Views as views
use Rattle.components.specs.Views.{ComponentWithin}
use Rattle.events.specs.declared.EventView.{EventView}
use Rattle.events.specs.declared.EventView.TheVariants as event
use Rattle.events.specs.declared.Inside.TheVariants as inside
use Rattle.events.specs.declared.ComponentEvent.{ComponentEvent}
use Rattle.events.specs.declared.ComponentEvent.TheVariants as component
use Rattle.events.specs.Views.{event_in, inside_in, component_event_in, EventWithin, InsideWithin, ComponentEventWithin}
use Rattle.known_events.specs.Fields.{ComponentFields, ComponentEventFields, InsideFields, EventFields}
use Rattle.known_events.specs.Known.{KnownEvent}
use Rattle.model.specs.Rows.{component_in, component_inside, component_as, component_of_line}
use Rattle.model.specs.Fits.{is_of_kind, is_inside_of, is_component_of}
use Rattle.recall.specs.Recalls.{blank_view, view_of, view_inside, view_in, Recalled}

-- what an event that was read stands for
module _ (line : List ℕ) where
  component_view : (k : Kind) (c : ComponentEvent) → is_component_of k (component_event_in line c) ≡ true → views.component_in line (view_of c) ≡ component_as k (component_event_in line c)
  unfolding is_component_of component_event_in view_of component_as
  component_view ingredient (component.Ingredient v i) h = refl
  component_view ingredient (component.Cookware v) h = no_truth h
  component_view ingredient (component.Timer s n q) h = no_truth h
  component_view cookware (component.Ingredient v i) h = no_truth h
  component_view cookware (component.Cookware v) h = refl
  component_view cookware (component.Timer s n q) h = no_truth h

  event_view : (k : Kind) (e : EventView) → is_of_kind k (Some (event_in line e)) ≡ true → views.component_in line (view_in e) ≡ component_in k (Some (event_in line e))
  unfolding is_of_kind is_inside_of event_in inside_in view_in view_inside component_in component_inside
  event_view k (event.Between b) h = no_truth h
  event_view k (event.Inside (inside.End b)) h = no_truth h
  event_view k (event.Inside (inside.Text t)) h = no_truth h
  event_view k (event.Inside (inside.Component c)) h = component_view k c h
  event_view k (event.Finding s n) h = no_truth h

  component_within : (k : Kind) (c : ComponentEvent) → is_component_of k (component_event_in line c) ≡ true → ComponentEventWithin line c → ComponentWithin line (view_of c)
  unfolding is_component_of component_event_in view_of ComponentEventWithin
  component_within k (component.Ingredient v i) h w = w.0
  component_within k (component.Cookware v) h w = w
  component_within ingredient (component.Timer s n q) h w = no_truth h
  component_within cookware (component.Timer s n q) h w = no_truth h

  event_within : (k : Kind) (e : EventView) → is_of_kind k (Some (event_in line e)) ≡ true → EventWithin line e → ComponentWithin line (view_in e)
  unfolding is_of_kind is_inside_of event_in inside_in view_in view_inside EventWithin InsideWithin
  event_within k (event.Between b) h w = no_truth h
  event_within k (event.Inside (inside.End b)) h w = no_truth h
  event_within k (event.Inside (inside.Text t)) h w = no_truth h
  event_within k (event.Inside (inside.Component c)) h w = component_within k c h w
  event_within k (event.Finding s n) h w = no_truth h

  component_fields_lem : (k : Kind) (c : ComponentEvent) → is_component_of k (component_event_in line c) ≡ true → ComponentEventFields line c → ComponentFields line (view_of c)
  unfolding is_component_of component_event_in view_of ComponentEventFields
  component_fields_lem k (component.Ingredient v i) h w = w
  component_fields_lem k (component.Cookware v) h w = w
  component_fields_lem ingredient (component.Timer s n q) h w = no_truth h
  component_fields_lem cookware (component.Timer s n q) h w = no_truth h

  event_fields_lem : (k : Kind) (e : EventView) → is_of_kind k (Some (event_in line e)) ≡ true → EventFields line e → ComponentFields line (view_in e)
  unfolding is_of_kind is_inside_of event_in inside_in view_in view_inside EventFields InsideFields
  event_fields_lem k (event.Between b) h w = no_truth h
  event_fields_lem k (event.Inside (inside.End b)) h w = no_truth h
  event_fields_lem k (event.Inside (inside.Text t)) h w = no_truth h
  event_fields_lem k (event.Inside (inside.Component c)) h w = component_fields_lem k c h w
  event_fields_lem k (event.Finding s n) h w = no_truth h

  no_component_lem : (c : ComponentEvent) → ((k : Kind) → is_component_of k (component_event_in line c) ≡ false) → view_of c ≡ blank_view
  unfolding is_component_of component_event_in view_of
  no_component_lem (component.Ingredient v i) h = no_truth (sym (h ingredient))
  no_component_lem (component.Cookware v) h = no_truth (sym (h cookware))
  no_component_lem (component.Timer s n q) h = refl

  no_event : (e : EventView) → ((k : Kind) → is_of_kind k (Some (event_in line e)) ≡ false) → view_in e ≡ blank_view
  unfolding is_of_kind is_inside_of event_in inside_in view_in view_inside
  no_event (event.Between b) h = refl
  no_event (event.Inside (inside.End b)) h = refl
  no_event (event.Inside (inside.Text t)) h = refl
  no_event (event.Inside (inside.Component c)) h = no_component_lem c h
  no_event (event.Finding s n) h = refl

module _ {line : List ℕ} {v : EventView} (o : KnownEvent line v) where
  of_kind : (k : Kind) → is_of_kind k (parse_line line) ≡ true → is_of_kind k (Some (event_in line v)) ≡ true
  of_kind k h = rw o.is at h

  recall_is : (k : Kind) → is_of_kind k (parse_line line) ≡ true → views.component_in line (view_in v) ≡ component_of_line k line
  unfolding component_of_line
  recall_is k h = rw o.is (event_view line k v (of_kind k h))

  pub recall_event : {c : ComponentView} → c ≡ view_in v → Recalled line c
  recall_event x =
      rw x
      (record {
        is = recall_is;
        within = λ k h. event_within line k v (of_kind k h) o.within;
        fields = λ k h. event_fields_lem line k v (of_kind k h) o.fields;
        nothing = λ h. no_event line v (λ k. rw o.is at (h k));
      })
