-- The contents of a line's view, as fields of a line that is UTF-8 and holds no LF.
use Prim.Native.Nat.{ℕ}
use mathlib.Core.Path.{◌≡◌, refl, sym, ◌∙◌}
use mathlib.Core.Bool.{Bool, true, false}
use mathlib.Core.List.{List, [], ◌∷◌, ◌++◌}
use Rattle.std.specs.Prelude.{Option, None, Some}
use Rattle.rules.specs.Basic.{pick, lf, is_some}
use Rattle.rules.specs.Utf8.{is_utf8}
use Rattle.rules.specs.Sheet.{fields_of, Without}
use Rattle.rules.specs.Event.{Event}
use Rattle.rules.specs.Read.{Fields, first_read, read_event, parse_line}
use Rattle.rules.proofs.Basics.{no_truth}
use Rattle.content.specs.Parts.{Field}
use Rattle.content.proofs.Lines.{Ready, AllReady, ready_none, ready_more, line_ready, ready_field}
use Rattle.parts.specs.declared.Part.{Part}
use Rattle.parts.specs.declared.TextView.{TextView}
use Rattle.parts.specs.declared.QuantityView.{QuantityView}
use Rattle.parts.specs.Views.{part_of, PartWithin, TextWithin, OptTextWithin, QuantityWithin, OptQuantityWithin, raw_text, raw_opt_text, raw_quantity, raw_opt_quantity}
use Rattle.parts.specs.Got.{Among, among_end, among_past, among_one}
use Rattle.components.specs.declared.ComponentView.{ComponentView}
use Rattle.components.specs.Views.{ComponentWithin, raw_component}
use Rattle.events.specs.declared.Between.{Between}
use Rattle.events.specs.declared.Between.TheVariants as between
use Rattle.events.specs.declared.ComponentEvent.{ComponentEvent}
use Rattle.events.specs.declared.ComponentEvent.TheVariants as component
use Rattle.events.specs.declared.Inside.{Inside}
use Rattle.events.specs.declared.Inside.TheVariants as inside
use Rattle.events.specs.declared.EventView.{EventView}
use Rattle.events.specs.declared.EventView.TheVariants as event
use Rattle.events.specs.Views.{BetweenWithin, ComponentEventWithin, InsideWithin, EventWithin, raw_between, raw_component_event, raw_inside, raw_event}
use Rattle.reading.specs.Answers.{event_as, IfEvent, IfWhole, EventOf}
use Rattle.known_events.specs.Fields.{TextField, OptTextField, QuantityFields, OptQuantityFields, ComponentFields, BetweenFields, ComponentEventFields, InsideFields, EventFields}
use Rattle.known_events.specs.Known.{KnownEvent}

-- ---- some of the fields

pub among_ready : {cs fs gs : Fields} → Among cs fs gs → AllReady fs → AllReady cs
among_ready among_end r = ready_none
among_ready (among_past p) (ready_more r rs) = among_ready p rs
among_ready (among_one p) (ready_more r rs) = ready_more r (among_ready p rs)

first_ready : {f : List ℕ} {fs : Fields} → AllReady (f ∷ fs) → Ready f
first_ready (ready_more r rs) = r

rest_ready : {f : List ℕ} {fs : Fields} → AllReady (f ∷ fs) → AllReady fs
rest_ready (ready_more r rs) = rs

left_ready : (fs gs : Fields) → AllReady (fs ++ gs) → AllReady fs
left_ready [] gs r = ready_none
left_ready (f ∷ fs) gs (ready_more r rs) = ready_more r (left_ready fs gs rs)

right_ready : (fs gs : Fields) → AllReady (fs ++ gs) → AllReady gs
right_ready [] gs r = r
right_ready (f ∷ fs) gs (ready_more r rs) = right_ready fs gs rs

-- ---- the parts of a view

is_there : {A : Type 0} {o : Option A} {a : A} → o ≡ Some a → is_some o ≡ true
unfolding is_some
is_there e = rw e

module _ (line : List ℕ) where
  part_field : (p : Part) → PartWithin line p → Ready (part_of line p) → Field (part_of line p)
  part_field p w r = ready_field r (is_there w.well)

  text_field : (v : TextView) → TextWithin line v → AllReady (raw_text line v) → TextField line v
  unfolding TextField
  text_field v w r = part_field v.content w.content (first_ready r)

  opt_text_field : (v : Option TextView) → OptTextWithin line v → AllReady (raw_opt_text line v) → OptTextField line v
  unfolding OptTextWithin OptTextField
  opt_text_field None w r = tt
  opt_text_field (Some v) w r = text_field v w r

  quantity_fields_lem : (v : QuantityView) → QuantityWithin line v → AllReady (raw_quantity line v) → QuantityFields line v
  quantity_fields_lem v w r = record { value = part_field v.value w.value (first_ready r); unit = opt_text_field v.unit w.unit (rest_ready r) }

  opt_quantity_fields : (v : Option QuantityView) → OptQuantityWithin line v → AllReady (raw_opt_quantity line v) → OptQuantityFields line v
  unfolding OptQuantityWithin OptQuantityFields
  opt_quantity_fields None w r = tt
  opt_quantity_fields (Some v) w r = quantity_fields_lem v w r

  component_fields_lem : (v : ComponentView) → ComponentWithin line v → AllReady (raw_component line v) → ComponentFields line v
  component_fields_lem v w r =
      let a = rest_ready r in
      let b = right_ready (raw_opt_text line v.alias) _ a in
      record {
        name = text_field v.name w.name (ready_more (first_ready r) ready_none);
        alias = opt_text_field v.alias w.alias (left_ready (raw_opt_text line v.alias) _ a);
        quantity = opt_quantity_fields v.quantity w.quantity (left_ready (raw_opt_quantity line v.quantity) _ b);
        note = opt_text_field v.note w.note (right_ready (raw_opt_quantity line v.quantity) _ b);
      }

  between_fields : (b : Between) → BetweenWithin line b → AllReady (raw_between line b) → BetweenFields line b
  unfolding BetweenWithin BetweenFields
  between_fields (between.Meta k v) w r = (text_field k w.0 (left_ready (raw_text line k) (raw_text line v) r), text_field v w.1 (right_ready (raw_text line k) (raw_text line v) r))
  between_fields (between.Section n) w r = opt_text_field n w r
  between_fields (between.Start k) w r = tt

  component_event_fields : (c : ComponentEvent) → ComponentEventWithin line c → AllReady (raw_component_event line c) → ComponentEventFields line c
  unfolding ComponentEventWithin ComponentEventFields
  component_event_fields (component.Ingredient c i) w r = component_fields_lem c w.0 r
  component_event_fields (component.Cookware c) w r = component_fields_lem c w r
  component_event_fields (component.Timer s n q) w r =
      (opt_text_field n w.1 (left_ready (raw_opt_text line n) (raw_opt_quantity line q) r), opt_quantity_fields q w.2 (right_ready (raw_opt_text line n) (raw_opt_quantity line q) r))

  inside_fields : (i : Inside) → InsideWithin line i → AllReady (raw_inside line i) → InsideFields line i
  unfolding InsideWithin InsideFields
  inside_fields (inside.End k) w r = tt
  inside_fields (inside.Text t) w r = text_field t w r
  inside_fields (inside.Component c) w r = component_event_fields c w r

  pub event_fields_lem : (v : EventView) → EventWithin line v → AllReady (raw_event line v) → EventFields line v
  unfolding EventWithin EventFields
  event_fields_lem (event.Between b) w r = between_fields b w r
  event_fields_lem (event.Inside i) w r = inside_fields i w r
  event_fields_lem (event.Finding s n) w r = tt

-- ---- a line that is well formed

no_event : {P : Type 0} → is_some {A = Event} None ≡ true → P
unfolding is_some
no_event h = no_truth h

utf8_read : (t : Bool) (o : Option Event) → is_some (pick t o None) ≡ true → t ≡ true
utf8_read true o h = refl
utf8_read false o h = no_event h

module _ (line : List ℕ) (h : is_some (parse_line line) ≡ true) where
  line_utf8 : is_utf8 line ≡ true
  unfolding parse_line
  line_utf8 = utf8_read (is_utf8 line) (first_read (read_event (fields_of line))) (unfold parse_line in h)

  line_read : parse_line line ≡ first_read (read_event (fields_of line))
  unfolding parse_line
  line_read = rw line_utf8

  -- every content of its view is a field
  pub whole_fields : Without lf line → (v : EventView) → EventWithin line v → Among (raw_event line v) (fields_of line) [] → EventFields line v
  whole_fields n v w a = event_fields_lem line v w (among_ready a (line_ready line line_utf8 n))

module _ {line : List ℕ} (h : (is_some (parse_line line) ≡ true) × Without lf line) where
  pub known_ill : {P : Type 0} → EventOf line None → P
  unfolding event_as
  known_ill o = no_event (rw (sym (o.is ∙ sym (line_read line h.0))) at h.0)

  pub known_event : {v : EventView} → EventOf line (Some v) → KnownEvent line v
  unfolding event_as IfEvent IfWhole
  known_event {v} o = record { is = sym (o.is ∙ sym (line_read line h.0)); within = o.within; fields = whole_fields line h.0 h.1 v o.within o.whole }
