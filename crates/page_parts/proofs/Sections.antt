-- What a line adds to the sections, by its kind.
use Rattle.std.specs.Prelude.{Option}
use Prim.Native.Nat.{ℕ}
use mathlib.Core.Path.{◌≡◌, refl, sym, ap, ◌∙◌, subst}
use mathlib.Core.List.{List, []}
use mathlib.Core.Bool.{true}
use lib.ListN.{length}
use Rattle.rules.specs.Basic.{all}
use Rattle.rules.specs.Event as rules
use Rattle.rules.specs.Event.{named_spans, component_spans, component_span, spans_of}
use Rattle.rules.specs.Units.{NamedUnit}
use Rattle.rules.specs.Answer.{is_good_span}
use Rattle.rules.proofs.Basics.{and_left}
use Rattle.output.specs.Put.{Put}
use Rattle.parts.specs.declared.TextView.{TextView}
use Rattle.components.specs.Views.{component_in}
use Rattle.events.specs.Views.{between_in, component_event_in, inside_in, event_in}
use Rattle.sheet.specs.declared.BlockKind.{BlockKind}
use Rattle.events.specs.declared.Between.{Between}
use Rattle.events.specs.declared.Between.TheVariants as between
use Rattle.events.specs.declared.ComponentEvent.{ComponentEvent}
use Rattle.events.specs.declared.ComponentEvent.TheVariants as component
use Rattle.events.specs.declared.Inside.{Inside}
use Rattle.events.specs.declared.Inside.TheVariants as inside
use Rattle.events.specs.declared.Severity.{Severity}
use Rattle.events.specs.declared.EventView.{EventView}
use Rattle.events.specs.declared.EventView.TheVariants as event
use Rattle.known_events.specs.Fields.{TextField, OptTextField, BetweenFields, InsideFields, EventFields}
use Rattle.model.specs.declared.Open.{Open}
use Rattle.step_lines.specs.declared.TextItems.{TextItems}
use Rattle.following.specs.Drawn.{opens_as, start_adds, inside_adds, sections_add, quantities_added}
use Rattle.following.specs.declared.Follow.{Follow}
use Rattle.page_parts.specs.Sections.{EndDrawn, ComponentDrawn, TextDrawn, BetweenDrawn, InsideDrawn, SectionsDrawn}
use Rattle.page_parts.proofs.Arms.{put_arm, put_nothing, named_adds}
use Rattle.sheet.specs.Words.{block_in}

-- ---- between blocks

module _ (line : List ℕ) {b : Between} (f : Follow) where
  pub between_meta : (k v : TextView) {o : List ℕ} → b ≡ between.Meta k v → BetweenDrawn line b f o o 0
  unfolding sections_add between_in
  between_meta k v q = record { at = λ text units flags. put_arm (λ (x : Between). sections_add text units flags (rules.between (between_in line x)) f) (between.Meta k v) q put_nothing }

  pub between_section : (n : Option TextView) {o₀ o : List ℕ} {r : ℕ} → b ≡ between.Section n → Put (named_adds line n) o₀ 0 o r → BetweenDrawn line b f o₀ o r
  unfolding sections_add between_in
  between_section n q p = record { at = λ text units flags. put_arm (λ (x : Between). sections_add text units flags (rules.between (between_in line x)) f) (between.Section n) q p }

  pub between_start : (k : BlockKind) {x : Open} {o₀ o : List ℕ} {r : ℕ} → b ≡ between.Start k → x ≡ opens_as f.define (block_in k) → Put (start_adds f x) o₀ 0 o r → BetweenDrawn line b f o₀ o r
  unfolding sections_add between_in
  between_start k {x} q e p = record { at = λ text units flags. put_arm (λ (y : Between). sections_add text units flags (rules.between (between_in line y)) f) (between.Start k) q (put_arm (start_adds f) x (sym e) p) }

pub section_field : (line : List ℕ) {b : Between} (n : Option TextView) → b ≡ between.Section n → BetweenFields line b → OptTextField line n
unfolding BetweenFields
section_field line n q z = subst (BetweenFields line) q z

-- ---- in a block

module _ (text : List ℕ) (units : List NamedUnit) (flags : ℕ) (line : List ℕ) {i : Inside} (f : Follow) where
  -- a line that is y
  inside_as : (y : Inside) {o₀ o : List ℕ} {r : TextItems} → i ≡ y → Put (inside_adds text units flags (inside_in line y) f.block f) o₀ 0 o r.count
      → r.inline ≡ length (quantities_added units flags (rules.inside (inside_in line y)) f) → InsideDrawn text units flags line i f o₀ o r
  inside_as y q p l =
      record {
        put = put_arm (λ (x : Inside). inside_adds text units flags (inside_in line x) f.block f) y q p;
        inline = l ∙ ap (λ (x : Inside). length (quantities_added units flags (rules.inside (inside_in line x)) f)) (sym q);
      }

  pub inside_end : (k : BlockKind) {o₀ o : List ℕ} {n : ℕ} → i ≡ inside.End k → EndDrawn f.block o₀ o n → InsideDrawn text units flags line i f o₀ o (record { count = n; inline = 0 })
  unfolding inside_in quantities_added
  inside_end k q p = inside_as (inside.End k) q (p.at text units flags (block_in k) f) refl

  pub inside_text : (v : TextView) {o₀ o : List ℕ} {r : TextItems} → i ≡ inside.Text v → TextDrawn units flags line v f o₀ o r → InsideDrawn text units flags line i f o₀ o r
  unfolding inside_in
  inside_text v q p = inside_as (inside.Text v) q (p.put text) p.inline

  pub inside_component : (c : ComponentEvent) {o₀ o : List ℕ} {n : ℕ} → i ≡ inside.Component c → ComponentDrawn text c f o₀ o n → InsideDrawn text units flags line i f o₀ o (record { count = n; inline = 0 })
  unfolding inside_in quantities_added
  inside_component c q p = inside_as (inside.Component c) q (p.at units flags line) refl

pub text_field : (line : List ℕ) {i : Inside} (v : TextView) → i ≡ inside.Text v → InsideFields line i → TextField line v
unfolding InsideFields
text_field line v q z = subst (InsideFields line) q z

-- the first span of a component is the whole of it
first_good : (text line : List ℕ) (c : ComponentEvent) → all (is_good_span text (length text)) (component_spans (component_event_in line c)) ≡ true → is_good_span text (length text) (component_span (component_event_in [] c)) ≡ true
unfolding component_event_in component_spans named_spans component_span all component_in
first_good text line (component.Ingredient v i) h = and_left _ _ h
first_good text line (component.Cookware v) h = and_left _ _ h
first_good text line (component.Timer s n q) h = and_left _ _ h

spans_at : (text line : List ℕ) (c : ComponentEvent) → all (is_good_span text (length text)) (spans_of (rules.inside (inside_in line (inside.Component c)))) ≡ true → all (is_good_span text (length text)) (component_spans (component_event_in line c)) ≡ true
unfolding spans_of inside_in
spans_at text line c h = h

pub component_good : (text line : List ℕ) {i : Inside} (c : ComponentEvent) → i ≡ inside.Component c → all (is_good_span text (length text)) (spans_of (rules.inside (inside_in line i))) ≡ true → is_good_span text (length text) (component_span (component_event_in [] c)) ≡ true
component_good text line c q h = first_good text line c (spans_at text line c (subst (λ (x : Inside). all (is_good_span text (length text)) (spans_of (rules.inside (inside_in line x))) ≡ true) q h))

-- ---- every line

module _ (text : List ℕ) (units : List NamedUnit) (flags : ℕ) (line : List ℕ) {e : EventView} (f : Follow) where
  -- a line that is y
  event_as_lem : (y : EventView) {o₀ o : List ℕ} {r : TextItems} → e ≡ y → Put (sections_add text units flags (event_in line y) f) o₀ 0 o r.count
      → r.inline ≡ length (quantities_added units flags (event_in line y) f) → SectionsDrawn text units flags line e f o₀ o r
  event_as_lem y q p l =
      record {
        put = put_arm (λ (x : EventView). sections_add text units flags (event_in line x) f) y q p;
        inline = l ∙ ap (λ (x : EventView). length (quantities_added units flags (event_in line x) f)) (sym q);
      }

  pub sections_between : (b : Between) {o₀ o : List ℕ} {n : ℕ} → e ≡ event.Between b → BetweenDrawn line b f o₀ o n → SectionsDrawn text units flags line e f o₀ o (record { count = n; inline = 0 })
  unfolding event_in quantities_added
  sections_between b q p = event_as_lem (event.Between b) q (p.at text units flags) refl

  pub sections_inside : (i : Inside) {o₀ o : List ℕ} {r : TextItems} → e ≡ event.Inside i → InsideDrawn text units flags line i f o₀ o r → SectionsDrawn text units flags line e f o₀ o r
  unfolding event_in sections_add
  sections_inside i q p = event_as_lem (event.Inside i) q p.put p.inline

  pub sections_finding : (s : Severity) (n : ℕ) {o : List ℕ} → e ≡ event.Finding s n → SectionsDrawn text units flags line e f o o (record { count = 0; inline = 0 })
  unfolding event_in sections_add quantities_added
  sections_finding s n q = event_as_lem (event.Finding s n) q put_nothing refl

pub between_field : (line : List ℕ) {e : EventView} (b : Between) → e ≡ event.Between b → EventFields line e → BetweenFields line b
unfolding EventFields
between_field line b q z = subst (EventFields line) q z

pub inside_field : (line : List ℕ) {e : EventView} (i : Inside) → e ≡ event.Inside i → EventFields line e → InsideFields line i
unfolding EventFields
inside_field line i q z = subst (EventFields line) q z

pub inside_spans : (text line : List ℕ) {e : EventView} (i : Inside) → e ≡ event.Inside i → all (is_good_span text (length text)) (spans_of (event_in line e)) ≡ true → all (is_good_span text (length text)) (spans_of (rules.inside (inside_in line i))) ≡ true
unfolding event_in
inside_spans text line i q h = subst (λ (x : EventView). all (is_good_span text (length text)) (spans_of (event_in line x)) ≡ true) q h
