-- From the code's arms to what a line adds.
use Prim.Native.Nat.{ℕ}
use mathlib.Core.Path.{◌≡◌, refl, sym, ap, ◌∙◌, subst}
use mathlib.Core.List.{List, [], ◌∷◌, ◌++◌}
use mathlib.Core.Bool.{Bool, true, false}
use Rattle.std.specs.Prelude.{None, Option, Some}
use native.Mathlib.Omega.{arith}
use borrow.Author.Tests.{le-leb}
use lib.ListN.{length}
use Rattle.rules.specs.Basic.{pick, codes, lf, is_some, on_some}
use Rattle.rules.specs.Sheet.{line_of}
use Rattle.rules.specs.Event as rules
use Rattle.rules.specs.Units.{NamedUnit}
use Rattle.rules.specs.Answer.{is_good_span}
use Rattle.rules.specs.Model.{trimmed_text}
use Rattle.rules.specs.Modes.{is_components}
use Rattle.rules.specs.Pass.{pieces, source_text}
use Rattle.rules.specs.Page.{optional, item_line}
use Rattle.output.specs.Put.{Put, over, over_at, after}
use Rattle.output.proofs.Puts.{put_seq}
use Rattle.output.proofs.Texts.{text_is}
use Rattle.content.specs.Contents.{spell}
use Rattle.parts.specs.Views.{span_in, text_in, opt_text_in}
use Rattle.parts.specs.declared.Span.{Span}
use Rattle.parts.specs.declared.TextView.{TextView}
use Rattle.components.specs.declared.ComponentView.{ComponentView}
use Rattle.events.specs.Views.{component_event_in}
use Rattle.events.specs.declared.ComponentEvent.{ComponentEvent}
use Rattle.events.specs.declared.ComponentEvent.TheVariants as component
use Rattle.known_events.specs.Fields.{OptTextField}
use Rattle.model.specs.declared.Open.{Open}
use Rattle.model.specs.declared.Open.TheVariants as block
use Rattle.blocks.specs.Lined.{SpanOf}
use Rattle.step_lines.specs.Lines.{item_as, PutItem, item_text, TextLines}
use Rattle.step_lines.specs.declared.ItemKind.TheVariants as item
use Rattle.step_lines.specs.declared.TextItems.{TextItems}
use Rattle.following.specs.Drawn.{keeps, section_line, lead, start_adds, component_item, unless_components, inside_adds, quantities_in, quantities_added}
use Rattle.following.specs.declared.Follow.{Follow}
use Rattle.page_parts.specs.Sections.{ItemDrawn, EndDrawn, ComponentDrawn, TextDrawn}
use Rattle.parts.specs.declared.QuantityView.{QuantityView}
use Rattle.components.specs.declared.Intermediate.{Intermediate}
use Rattle.sheet.specs.Words.{define_of}

-- what is written of a variant is written of a value that is the variant
pub put_arm : {A : Type 0} (g : A → List ℕ) {x : A} (y : A) {o₀ o : List ℕ} {at r : ℕ} → x ≡ y → Put (g y) o₀ at o r → Put (g x) o₀ at o r
put_arm g y q p = text_is (g _) (ap g q) p

-- nothing is written
pub put_nothing : {o : List ℕ} → Put [] o 0 o 0
unfolding over_at over after
put_nothing {o} = record { bytes = refl; next = rw (le-leb 0 (length o) (omega arith)) }

-- ---- `start`

-- what a `start` adds where the block is kept
start_is : (f : Follow) (b : Open) {k : Bool} → k ≡ keeps f.define b → (s : Bool) → k ≡ true → f.shown ≡ s → start_adds f b ≡ pick s [] (section_line None) ++ lead f.counter b
unfolding start_adds
start_is f b e s q z = rw (sym e ∙ q, z)

module _ (f : Follow) (b : Open) {o₀ o : List ℕ} {r : ℕ} {k : Bool} (e : k ≡ keeps f.define b) where
  pub start_shown : k ≡ true → f.shown ≡ true → Put (lead f.counter b) o₀ 0 o r → Put (start_adds f b) o₀ 0 o r
  start_shown q z p = text_is (start_adds f b) (start_is f b e true q z) p

  pub start_first : k ≡ true → f.shown ≡ false → {o₁ : List ℕ} {n : ℕ} → Put (line_of (codes "section" ∷ optional None ∷ [])) o₀ 0 o₁ n → Put (lead f.counter b) o₁ n o r → Put (start_adds f b) o₀ 0 o r
  unfolding section_line
  start_first q z p w = text_is (start_adds f b) (start_is f b e false q z) (put_seq p w)

pub start_dropped : (f : Follow) (b : Open) {k : Bool} {o : List ℕ} → k ≡ keeps f.define b → k ≡ false → Put (start_adds f b) o 0 o 0
unfolding start_adds
start_dropped f b e q = text_is (start_adds f b) (rw (sym e ∙ q)) put_nothing

-- ---- `section`

abbrev pub named_adds : List ℕ → Option TextView → List ℕ
named_adds line n = pick (is_some (opt_text_in line n)) (section_line (on_some trimmed_text (opt_text_in line n))) []

pub named_none : (line : List ℕ) {n : Option TextView} {o : List ℕ} → n ≡ None → Put (named_adds line n) o 0 o 0
unfolding opt_text_in is_some
named_none line q = put_arm (named_adds line) None q put_nothing

named_is : (line : List ℕ) (v : TextView) → named_adds line (Some v) ≡ section_line (on_some trimmed_text (opt_text_in line (Some v)))
unfolding opt_text_in is_some
named_is line v = refl

pub named_some : (line : List ℕ) {n : Option TextView} (v : TextView) {o₀ o : List ℕ} {r : ℕ} → n ≡ Some v → Put (section_line (on_some trimmed_text (opt_text_in line (Some v)))) o₀ 0 o r → Put (named_adds line n) o₀ 0 o r
named_some line v q p = put_arm (named_adds line) (Some v) q (text_is (named_adds line (Some v)) (named_is line v) p)

pub named_field : (line : List ℕ) {n : Option TextView} (v : TextView) → n ≡ Some v → OptTextField line n → OptTextField line (Some v)
named_field line v q z = subst (OptTextField line) q z

-- ---- `end`

module _ {b : Open} where
  pub end_nothing : {o : List ℕ} → b ≡ block.Nothing → EndDrawn b o o 0
  unfolding inside_adds
  end_nothing q = record { at = λ text units flags k f. put_arm (λ (x : Open). inside_adds text units flags (rules.end_event k) x f) block.Nothing q put_nothing }

  pub end_step : {o : List ℕ} → b ≡ block.Step → EndDrawn b o o 0
  unfolding inside_adds
  end_step q = record { at = λ text units flags k f. put_arm (λ (x : Open). inside_adds text units flags (rules.end_event k) x f) block.Step q put_nothing }

  pub end_text : {o₀ o : List ℕ} {r : ℕ} → b ≡ block.Text → Put (lf ∷ []) o₀ 0 o r → EndDrawn b o₀ o r
  unfolding inside_adds
  end_text q p = record { at = λ text units flags k f. put_arm (λ (x : Open). inside_adds text units flags (rules.end_event k) x f) block.Text q p }

  pub end_mode : {o₀ o : List ℕ} {r : ℕ} → b ≡ block.TextMode → Put (lf ∷ []) o₀ 0 o r → EndDrawn b o₀ o r
  unfolding inside_adds
  end_mode q p = record { at = λ text units flags k f. put_arm (λ (x : Open). inside_adds text units flags (rules.end_event k) x f) block.TextMode q p }

-- ---- components

module _ {c : ComponentEvent} (f : Follow) {o₀ o : List ℕ} {r : ℕ} where
  pub item_ingredient : (v : ComponentView) (i : Option Intermediate) → c ≡ component.Ingredient v i → PutItem (item_as item.Ingredient f.ingredients) o₀ o r → ItemDrawn c f o₀ o r
  unfolding component_item component_event_in item_as
  item_ingredient v i q p = record { at = λ line. put_arm (λ (x : ComponentEvent). item_line 0 (component_item (component_event_in line x) f)) (component.Ingredient v i) q (p.line 0) }

  pub item_cookware : (v : ComponentView) → c ≡ component.Cookware v → PutItem (item_as item.Cookware f.cookware) o₀ o r → ItemDrawn c f o₀ o r
  unfolding component_item component_event_in item_as
  item_cookware v q p = record { at = λ line. put_arm (λ (x : ComponentEvent). item_line 0 (component_item (component_event_in line x) f)) (component.Cookware v) q (p.line 0) }

  pub item_timer : (s : Span) (n : Option TextView) (a : Option QuantityView) → c ≡ component.Timer s n a → PutItem (item_as item.Timer f.timers) o₀ o r → ItemDrawn c f o₀ o r
  unfolding component_item component_event_in item_as
  item_timer s n a q p = record { at = λ line. put_arm (λ (x : ComponentEvent). item_line 0 (component_item (component_event_in line x) f)) (component.Timer s n a) q (p.line 0) }

dropped_is : (f : Follow) {x : Bool} (w : List ℕ) → x ≡ is_components (define_of f.define) → x ≡ true → unless_components f w ≡ []
unfolding unless_components
dropped_is f w e q = rw (sym e ∙ q)

kept_is : (f : Follow) {x : Bool} (w : List ℕ) → x ≡ is_components (define_of f.define) → x ≡ false → unless_components f w ≡ w
unfolding unless_components
kept_is f w e q = rw (sym e ∙ q)

module _ (text : List ℕ) {c : ComponentEvent} (f : Follow) where
  -- a component in the block y
  in_block : (y : Open) {o₀ o : List ℕ} {r : ℕ} → f.block ≡ y → ((units : List NamedUnit) (flags : ℕ) (line : List ℕ) → Put (inside_adds text units flags (rules.component_event (component_event_in line c)) y f) o₀ 0 o r) → ComponentDrawn text c f o₀ o r
  in_block y q p = record { at = λ units flags line. put_arm (λ (x : Open). inside_adds text units flags (rules.component_event (component_event_in line c)) x f) y q (p units flags line) }

  pub component_nothing : {o : List ℕ} → f.block ≡ block.Nothing → ComponentDrawn text c f o o 0
  unfolding inside_adds
  component_nothing q = in_block block.Nothing q (λ units flags line. put_nothing)

  pub component_text : {o : List ℕ} → f.block ≡ block.Text → ComponentDrawn text c f o o 0
  unfolding inside_adds
  component_text q = in_block block.Text q (λ units flags line. put_nothing)

  pub component_dropped : {x : Bool} {o : List ℕ} → x ≡ is_components (define_of f.define) → x ≡ true → f.block ≡ block.Step → ComponentDrawn text c f o o 0
  unfolding inside_adds
  component_dropped e z q = in_block block.Step q (λ units flags line. text_is _ (dropped_is f (item_line 0 (component_item (component_event_in line c) f)) e z) put_nothing)

  pub component_item_lem : {x : Bool} {o₀ o : List ℕ} {r : ℕ} → x ≡ is_components (define_of f.define) → x ≡ false → f.block ≡ block.Step → ItemDrawn c f o₀ o r → ComponentDrawn text c f o₀ o r
  unfolding inside_adds
  component_item_lem e z q p = in_block block.Step q (λ units flags line. text_is _ (kept_is f (item_line 0 (component_item (component_event_in line c) f)) e z) (p.at line))

  pub component_source : {s : Span} {o₀ o : List ℕ} {r : ℕ} → f.block ≡ block.TextMode → SpanOf c s → Put (spell (source_text text (span_in s))) o₀ 0 o r → ComponentDrawn text c f o₀ o r
  unfolding inside_adds
  component_source {s} q w p = in_block block.TextMode q (λ units flags line. put_arm (λ (x : rules.Span). spell (source_text text x)) (span_in s) (sym (w.is line)) p)

pub span_good : (text : List ℕ) (c : ComponentEvent) {s : Span} → SpanOf c s → is_good_span text (length text) (rules.component_span (component_event_in [] c)) ≡ true → is_good_span text (length text) (span_in s) ≡ true
span_good text c w g = ap (is_good_span text (length text)) (w.is []) ∙ g

-- ---- texts

module _ {units : List NamedUnit} {flags : ℕ} {line : List ℕ} {v : TextView} (f : Follow) where
  -- a text in the block y
  text_block_lem : (y : Open) {o₀ o : List ℕ} {r : TextItems} → f.block ≡ y → ((t : List ℕ) → Put (inside_adds t units flags (rules.text_event (text_in line v)) y f) o₀ 0 o r.count)
      → r.inline ≡ length (quantities_in units flags (text_in line v) y f) → TextDrawn units flags line v f o₀ o r
  unfolding quantities_added
  text_block_lem y q p l =
      record {
        put = λ t. put_arm (λ (x : Open). inside_adds t units flags (rules.text_event (text_in line v)) x f) y q (p t);
        inline = l ∙ ap (λ (x : Open). length (quantities_in units flags (text_in line v) x f)) (sym q);
      }

  pub text_nothing : {o : List ℕ} → f.block ≡ block.Nothing → TextDrawn units flags line v f o o (record { count = 0; inline = 0 })
  unfolding inside_adds quantities_in
  text_nothing q = text_block_lem block.Nothing q (λ t. put_nothing) refl

  pub text_piece_lem : {o₀ o : List ℕ} {n : ℕ} → f.block ≡ block.Text → Put (spell (text_in line v).content) o₀ 0 o n → TextDrawn units flags line v f o₀ o (record { count = n; inline = 0 })
  unfolding inside_adds quantities_in
  text_piece_lem q p = text_block_lem block.Text q (λ t. p) refl

  pub text_mode : {o₀ o : List ℕ} {n : ℕ} → f.block ≡ block.TextMode → Put (spell (text_in line v).content) o₀ 0 o n → TextDrawn units flags line v f o₀ o (record { count = n; inline = 0 })
  unfolding inside_adds quantities_in
  text_mode q p = text_block_lem block.TextMode q (λ t. p) refl

  pub text_dropped : {x : Bool} {o : List ℕ} → x ≡ is_components (define_of f.define) → x ≡ true → f.block ≡ block.Step → TextDrawn units flags line v f o o (record { count = 0; inline = 0 })
  unfolding inside_adds unless_components quantities_in
  text_dropped e z q = text_block_lem block.Step q (λ t. text_is _ (rw (sym e ∙ z)) put_nothing) (rw (sym e ∙ z))

  pub text_items_lem : {x : Bool} {o₀ o : List ℕ} {r : TextItems} → x ≡ is_components (define_of f.define) → x ≡ false → f.block ≡ block.Step
      → TextLines item_text (pieces units flags (text_in line v).content) f.inline o₀ o r → TextDrawn units flags line v f o₀ o r
  unfolding inside_adds unless_components quantities_in
  text_items_lem {x} {o₀} {o} {r} e z q p = text_block_lem block.Step q (λ t. text_is _ (rw (sym e ∙ z)) p.lines) (rw (sym e ∙ z) p.quantities)
