-- What a line adds to the timers, to the inline quantities and to the spans of finding 3, by its kind.
use Prim.Native.Nat.{ℕ}
use mathlib.Core.Path.{◌≡◌, refl, sym, ap, ◌∙◌, subst}
use mathlib.Core.List.{List, []}
use mathlib.Core.Bool.{Bool, true, false}
use Rattle.std.specs.Prelude.{Option, None, Some}
use lib.ListN.{length}
use Rattle.rules.specs.Basic.{pick, word_in}
use Rattle.rules.specs.Words.{DefineMode, define_key, duplicate_key, define_words}
use Rattle.rules.specs.Event as rules
use Rattle.rules.specs.Units.{NamedUnit}
use Rattle.rules.specs.Modes as modes
use Rattle.rules.specs.Modes.{is_components, has_modes, key_of, key_text, value_text, config, unknown_config, ordinary}
use Rattle.rules.specs.Components.{timer_of}
use Rattle.rules.specs.Pass.{pieces}
use Rattle.rules.specs.Page.{timer_line}
use Rattle.output.specs.Put.{Put}
use Rattle.output.proofs.Texts.{text_is}
use Rattle.parts.specs.Views.{span_in, text_in, opt_text_in, opt_quantity_in, TextWithin}
use Rattle.parts.specs.declared.Span.{Span}
use Rattle.parts.specs.declared.TextView.{TextView}
use Rattle.components.specs.declared.ComponentView.{ComponentView}
use Rattle.events.specs.Views.{between_in, component_event_in, inside_in, event_in, BetweenWithin, EventWithin}
use Rattle.sheet.specs.declared.BlockKind.{BlockKind}
use Rattle.events.specs.declared.Between.{Between}
use Rattle.events.specs.declared.Between.TheVariants as between
use Rattle.events.specs.declared.ComponentEvent.{ComponentEvent}
use Rattle.events.specs.declared.ComponentEvent.TheVariants as component
use Rattle.events.specs.declared.Inside.{Inside}
use Rattle.events.specs.declared.Inside.TheVariants as inside
use Rattle.events.specs.declared.Severity.{Severity}
use Rattle.events.specs.declared.EventView.{EventView}
use Rattle.events.specs.declared.EventView.TheVariants as event
use Rattle.known_events.specs.Fields.{TextField, OptTextField, OptQuantityFields, ComponentEventFields, InsideFields, EventFields}
use Rattle.model.specs.declared.Open.{Open}
use Rattle.model.specs.declared.Open.TheVariants as block
use Rattle.finding_lines.specs.Lines.{span_piece}
use Rattle.step_lines.specs.Lines.{TextLines, inline_text}
use Rattle.step_lines.specs.declared.TextItems.{TextItems}
use Rattle.following.specs.Drawn.{timer_adds, timers_add, inline_adds, inline_add, unless_components, quantities_in, quantities_added, span_adds, key_adds, old_add}
use Rattle.following.specs.Follow.{define_meta, key_meta, meta_of, MetaRead}
use Rattle.following.specs.declared.Follow.{Follow}
use Rattle.following.specs.declared.Meta.{Meta}
use Rattle.following.specs.declared.Meta.TheVariants.{Defines, Ordinary, Other}
use Rattle.page_parts.specs.Drawing.{TimerDrawn, TimersDrawn, QuantitiesDrawn, InlineDrawn, MetaDrawn, OldDrawn}
use Rattle.page_parts.proofs.Arms.{put_arm, put_nothing}
use Rattle.components.specs.declared.Intermediate.{Intermediate}
use Rattle.parts.specs.declared.QuantityView.{QuantityView}
use Rattle.sheet.specs.Words.{define_of}

-- ---- timers

module _ (line : List ℕ) {c : ComponentEvent} (f : Follow) where
  -- a component that is y, in the block b
  timer_as : (y : ComponentEvent) (b : Open) {o₀ o : List ℕ} {r : ℕ} → c ≡ y → f.block ≡ b → Put (timer_adds (component_event_in line y) b f) o₀ 0 o r → TimerDrawn line c f o₀ o r
  timer_as y b q z p =
      record {
        put = put_arm (λ (x : ComponentEvent). timer_adds (component_event_in line x) f.block f) y q (put_arm (λ (x : Open). timer_adds (component_event_in line y) x f) b z p);
      }

  pub timer_ingredient : (v : ComponentView) (i : Option Intermediate) {o : List ℕ} → c ≡ component.Ingredient v i → TimerDrawn line c f o o 0
  unfolding timer_adds component_event_in
  timer_ingredient v i q = timer_as (component.Ingredient v i) f.block q refl put_nothing

  pub timer_cookware : (v : ComponentView) {o : List ℕ} → c ≡ component.Cookware v → TimerDrawn line c f o o 0
  unfolding timer_adds component_event_in
  timer_cookware v q = timer_as (component.Cookware v) f.block q refl put_nothing

  module _ (s : Span) (n : Option TextView) (a : Option QuantityView) (q : c ≡ component.Timer s n a) where
    pub timer_nothing : {o : List ℕ} → f.block ≡ block.Nothing → TimerDrawn line c f o o 0
    unfolding timer_adds component_event_in
    timer_nothing z = timer_as (component.Timer s n a) block.Nothing q z put_nothing

    pub timer_text : {o : List ℕ} → f.block ≡ block.Text → TimerDrawn line c f o o 0
    unfolding timer_adds component_event_in
    timer_text z = timer_as (component.Timer s n a) block.Text q z put_nothing

    pub timer_mode : {o : List ℕ} → f.block ≡ block.TextMode → TimerDrawn line c f o o 0
    unfolding timer_adds component_event_in
    timer_mode z = timer_as (component.Timer s n a) block.TextMode q z put_nothing

    pub timer_step : {o₀ o : List ℕ} {r : ℕ} → f.block ≡ block.Step → Put (timer_line f.timers (timer_of (opt_text_in line n) (opt_quantity_in line a))) o₀ 0 o r → TimerDrawn line c f o₀ o r
    unfolding timer_adds component_event_in
    timer_step z p = timer_as (component.Timer s n a) block.Step q z p

pub timer_fields : (line : List ℕ) {c : ComponentEvent} (s : Span) (n : Option TextView) (a : Option QuantityView) → c ≡ component.Timer s n a → ComponentEventFields line c → OptTextField line n × OptQuantityFields line a
unfolding ComponentEventFields
timer_fields line s n a q z = subst (ComponentEventFields line) q z

pub component_field : (line : List ℕ) {e : EventView} (i : Inside) (c : ComponentEvent) → e ≡ event.Inside i → i ≡ inside.Component c → EventFields line e → ComponentEventFields line c
unfolding EventFields InsideFields
component_field line i c q w z = subst (InsideFields line) w (subst (EventFields line) q z)

pub body_field : (line : List ℕ) {e : EventView} (i : Inside) (v : TextView) → e ≡ event.Inside i → i ≡ inside.Text v → EventFields line e → TextField line v
unfolding EventFields InsideFields
body_field line i v q w z = subst (InsideFields line) w (subst (EventFields line) q z)

module _ (line : List ℕ) {e : EventView} (f : Follow) where
  timers_as : (y : EventView) {o₀ o : List ℕ} {r : ℕ} → e ≡ y → Put (timers_add (event_in line y) f) o₀ 0 o r → TimersDrawn line e f o₀ o r
  timers_as y q p = record { put = put_arm (λ (x : EventView). timers_add (event_in line x) f) y q p }

  pub timers_between : (b : Between) {o : List ℕ} → e ≡ event.Between b → TimersDrawn line e f o o 0
  unfolding timers_add event_in
  timers_between b q = timers_as (event.Between b) q put_nothing

  pub timers_end : (i : Inside) (k : BlockKind) {o : List ℕ} → e ≡ event.Inside i → i ≡ inside.End k → TimersDrawn line e f o o 0
  unfolding timers_add event_in inside_in
  timers_end i k q w = timers_as (event.Inside (inside.End k)) (q ∙ ap event.Inside w) put_nothing

  pub timers_text : (i : Inside) (v : TextView) {o : List ℕ} → e ≡ event.Inside i → i ≡ inside.Text v → TimersDrawn line e f o o 0
  unfolding timers_add event_in inside_in
  timers_text i v q w = timers_as (event.Inside (inside.Text v)) (q ∙ ap event.Inside w) put_nothing

  pub timers_component : (i : Inside) (c : ComponentEvent) {o₀ o : List ℕ} {r : ℕ} → e ≡ event.Inside i → i ≡ inside.Component c → TimerDrawn line c f o₀ o r → TimersDrawn line e f o₀ o r
  unfolding timers_add event_in inside_in
  timers_component i c q w p = timers_as (event.Inside (inside.Component c)) (q ∙ ap event.Inside w) p.put

  pub timers_finding : (s : Severity) (n : ℕ) {o : List ℕ} → e ≡ event.Finding s n → TimersDrawn line e f o o 0
  unfolding timers_add event_in
  timers_finding s n q = timers_as (event.Finding s n) q put_nothing

-- ---- inline quantities

module _ {units : List NamedUnit} {flags : ℕ} {line : List ℕ} {v : TextView} (f : Follow) where
  -- a text in the block y
  quantities_block : (y : Open) {o₀ o : List ℕ} {r : TextItems} → f.block ≡ y → Put (inline_adds units flags (text_in line v) y f) o₀ 0 o r.count
      → r.inline ≡ length (quantities_in units flags (text_in line v) y f) → QuantitiesDrawn units flags line v f o₀ o r
  quantities_block y q p l =
      record {
        put = put_arm (λ (x : Open). inline_adds units flags (text_in line v) x f) y q p;
        inline = l ∙ ap (λ (x : Open). length (quantities_in units flags (text_in line v) x f)) (sym q);
      }

  pub quantities_nothing : {o : List ℕ} → f.block ≡ block.Nothing → QuantitiesDrawn units flags line v f o o (record { count = 0; inline = 0 })
  unfolding inline_adds quantities_in
  quantities_nothing q = quantities_block block.Nothing q put_nothing refl

  pub quantities_text : {o : List ℕ} → f.block ≡ block.Text → QuantitiesDrawn units flags line v f o o (record { count = 0; inline = 0 })
  unfolding inline_adds quantities_in
  quantities_text q = quantities_block block.Text q put_nothing refl

  pub quantities_mode : {o : List ℕ} → f.block ≡ block.TextMode → QuantitiesDrawn units flags line v f o o (record { count = 0; inline = 0 })
  unfolding inline_adds quantities_in
  quantities_mode q = quantities_block block.TextMode q put_nothing refl

  pub quantities_dropped : {x : Bool} {o : List ℕ} → x ≡ is_components (define_of f.define) → x ≡ true → f.block ≡ block.Step → QuantitiesDrawn units flags line v f o o (record { count = 0; inline = 0 })
  unfolding inline_adds unless_components quantities_in
  quantities_dropped e z q = quantities_block block.Step q (text_is _ (rw (sym e ∙ z)) put_nothing) (rw (sym e ∙ z))

  pub quantities_step : {x : Bool} {o₀ o : List ℕ} {r : TextItems} → x ≡ is_components (define_of f.define) → x ≡ false → f.block ≡ block.Step
      → TextLines inline_text (pieces units flags (text_in line v).content) f.inline o₀ o r → QuantitiesDrawn units flags line v f o₀ o r
  unfolding inline_adds unless_components quantities_in
  quantities_step {x} {o₀} {o} {r} e z q p = quantities_block block.Step q (text_is _ (rw (sym e ∙ z)) p.lines) (rw (sym e ∙ z) p.quantities)

module _ {units : List NamedUnit} {flags : ℕ} {line : List ℕ} {e : EventView} (f : Follow) where
  inline_as_lem : (y : EventView) {o₀ o : List ℕ} {r : TextItems} → e ≡ y → Put (inline_add units flags (event_in line y) f) o₀ 0 o r.count
      → r.inline ≡ length (quantities_added units flags (event_in line y) f) → InlineDrawn units flags line e f o₀ o r
  inline_as_lem y q p l =
      record {
        put = put_arm (λ (x : EventView). inline_add units flags (event_in line x) f) y q p;
        inline = l ∙ ap (λ (x : EventView). length (quantities_added units flags (event_in line x) f)) (sym q);
      }

  pub inline_between : (b : Between) {o : List ℕ} → e ≡ event.Between b → InlineDrawn units flags line e f o o (record { count = 0; inline = 0 })
  unfolding inline_add quantities_added event_in
  inline_between b q = inline_as_lem (event.Between b) q put_nothing refl

  pub inline_end : (i : Inside) (k : BlockKind) {o : List ℕ} → e ≡ event.Inside i → i ≡ inside.End k → InlineDrawn units flags line e f o o (record { count = 0; inline = 0 })
  unfolding inline_add quantities_added event_in inside_in
  inline_end i k q w = inline_as_lem (event.Inside (inside.End k)) (q ∙ ap event.Inside w) put_nothing refl

  pub inline_text_lem : (i : Inside) (v : TextView) {o₀ o : List ℕ} {r : TextItems} → e ≡ event.Inside i → i ≡ inside.Text v → QuantitiesDrawn units flags line v f o₀ o r → InlineDrawn units flags line e f o₀ o r
  unfolding inline_add quantities_added event_in inside_in
  inline_text_lem i v q w p = inline_as_lem (event.Inside (inside.Text v)) (q ∙ ap event.Inside w) p.put p.inline

  pub inline_component : (i : Inside) (c : ComponentEvent) {o : List ℕ} → e ≡ event.Inside i → i ≡ inside.Component c → InlineDrawn units flags line e f o o (record { count = 0; inline = 0 })
  unfolding inline_add quantities_added event_in inside_in
  inline_component i c q w = inline_as_lem (event.Inside (inside.Component c)) (q ∙ ap event.Inside w) put_nothing refl

  pub inline_finding : (s : Severity) (n : ℕ) {o : List ℕ} → e ≡ event.Finding s n → InlineDrawn units flags line e f o o (record { count = 0; inline = 0 })
  unfolding inline_add quantities_added event_in
  inline_finding s n q = inline_as_lem (event.Finding s n) q put_nothing refl

-- ---- spans of finding 3

-- by what the line does
unfoldable meta_adds : Meta → rules.Text → rules.Text → Follow → List ℕ
meta_adds (Defines d) k v f = []
meta_adds Ordinary k v f = span_adds f.old (record { start = k.span.start; end = v.span.end })
meta_adds Other k v f = []

key_adds_lem : (x : modes.Key) (o : Option DefineMode) (k v : rules.Text) (f : Follow) → key_adds x k v f ≡ meta_adds (key_meta x o) k v f
unfolding key_adds meta_adds key_meta define_meta
key_adds_lem (config define_key) None k v f = refl
key_adds_lem (config define_key) (Some m) k v f = refl
key_adds_lem (config duplicate_key) o k v f = refl
key_adds_lem unknown_config o k v f = refl
key_adds_lem ordinary o k v f = refl

module _ (flags : ℕ) (line : List ℕ) (k v : TextView) (f : Follow) {m : Meta} (w : MetaRead flags line k v m) where
  meta_as : (y : Meta) {o₀ o : List ℕ} {r : ℕ} → m ≡ y → Put (meta_adds y (text_in line k) (text_in line v) f) o₀ 0 o r → MetaDrawn flags line k v f o₀ o r
  unfolding old_add meta_of
  meta_as y q p =
      record {
        put = text_is _ (key_adds_lem (pick (has_modes flags) (key_of (key_text (text_in line k))) ordinary) (word_in (value_text (text_in line v)) define_words) (text_in line k) (text_in line v) f)
            (put_arm (λ (x : Meta). meta_adds x (text_in line k) (text_in line v) f) y (sym w.is ∙ q) p);
      }

  pub meta_defines : (d : _) {o : List ℕ} → m ≡ Defines d → MetaDrawn flags line k v f o o 0
  unfolding meta_adds
  meta_defines d q = meta_as (Defines d) q put_nothing

  pub meta_other : {o : List ℕ} → m ≡ Other → MetaDrawn flags line k v f o o 0
  unfolding meta_adds
  meta_other q = meta_as Other q put_nothing

  pub meta_first : {o₀ o : List ℕ} {r : ℕ} → m ≡ Ordinary → f.old ≡ false → Put (span_piece true (span_in (record { start = k.span.start; end = v.span.end }))) o₀ 0 o r → MetaDrawn flags line k v f o₀ o r
  unfolding meta_adds span_adds span_piece span_in text_in
  meta_first q z p = meta_as Ordinary q (text_is _ (rw z) p)

  pub meta_later : {o₀ o : List ℕ} {r : ℕ} → m ≡ Ordinary → f.old ≡ true → Put (span_piece false (span_in (record { start = k.span.start; end = v.span.end }))) o₀ 0 o r → MetaDrawn flags line k v f o₀ o r
  unfolding meta_adds span_adds span_piece span_in text_in
  meta_later q z p = meta_as Ordinary q (text_is _ (rw z) p)

pub meta_within : (line : List ℕ) {e : EventView} (b : Between) (k v : TextView) → e ≡ event.Between b → b ≡ between.Meta k v → EventWithin line e → TextWithin line k × TextWithin line v
unfolding EventWithin BetweenWithin
meta_within line b k v q w z = subst (BetweenWithin line) w (subst (EventWithin line) q z)

module _ {flags : ℕ} {line : List ℕ} {e : EventView} (f : Follow) where
  old_as : (y : EventView) {o₀ o : List ℕ} {r : ℕ} → e ≡ y → Put (old_add flags (event_in line y) f) o₀ 0 o r → OldDrawn flags line e f o₀ o r
  old_as y q p = record { put = put_arm (λ (x : EventView). old_add flags (event_in line x) f) y q p }

  pub old_meta : (b : Between) (k v : TextView) {o₀ o : List ℕ} {r : ℕ} → e ≡ event.Between b → b ≡ between.Meta k v → MetaDrawn flags line k v f o₀ o r → OldDrawn flags line e f o₀ o r
  unfolding event_in between_in
  old_meta b k v q w p = old_as (event.Between (between.Meta k v)) (q ∙ ap event.Between w) p.put

  pub old_section : (b : Between) (n : Option TextView) {o : List ℕ} → e ≡ event.Between b → b ≡ between.Section n → OldDrawn flags line e f o o 0
  unfolding old_add event_in between_in
  old_section b n q w = old_as (event.Between (between.Section n)) (q ∙ ap event.Between w) put_nothing

  pub old_start : (b : Between) (k : BlockKind) {o : List ℕ} → e ≡ event.Between b → b ≡ between.Start k → OldDrawn flags line e f o o 0
  unfolding old_add event_in between_in
  old_start b k q w = old_as (event.Between (between.Start k)) (q ∙ ap event.Between w) put_nothing

  pub old_inside : (i : Inside) {o : List ℕ} → e ≡ event.Inside i → OldDrawn flags line e f o o 0
  unfolding old_add event_in
  old_inside i q = old_as (event.Inside i) q put_nothing

  pub old_finding : (s : Severity) (n : ℕ) {o : List ℕ} → e ≡ event.Finding s n → OldDrawn flags line e f o o 0
  unfolding old_add event_in
  old_finding s n q = old_as (event.Finding s n) q put_nothing
