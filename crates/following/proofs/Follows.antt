-- From the code's arms to the small state that follows the walk.
use Prim.Native.Nat.{ℕ, suc, ◌+◌, ◌%◌}
use mathlib.Core.Path.{◌≡◌, refl, sym, ap, ◌∙◌, subst}
use mathlib.Core.List.{List}
use mathlib.Core.Logic.{◌⊎◌, inl, inr}
use mathlib.Core.Bool.{Bool, true, false, ◌||◌, not}
use Rattle.std.specs.Prelude.{Option, None, Some}
use Rattle.std.specs.Option as option
use native.Mathlib.Numerals.{add-one}
use borrow.Author.Tests.{ne_eqb}
use Rattle.rules.specs.Basic.{pick, is_some, on_some, word_in}
use Rattle.rules.specs.Words.{define_words}
use Rattle.rules.specs.Text.{text_trimmed, text_outer_trimmed}
use Rattle.rules.specs.Modes as modes
use Rattle.rules.specs.Modes.{is_components, is_text, has_modes, key_of, value_text}
use Rattle.sheet.specs.Words.{block_in, define_of}
use Rattle.content.specs.Contents as contents
use Rattle.parts.specs.Views.{part_of, text_in, TextWithin, opt_text_in}
use Rattle.parts.specs.declared.Span.{Span}
use Rattle.parts.specs.declared.TextView.{TextView}
use Rattle.components.specs.declared.ComponentView.{ComponentView}
use Rattle.events.specs.Views.{between_in, component_event_in, inside_in, event_in, BetweenWithin, EventWithin}
use Rattle.sheet.specs.declared.BlockKind.{BlockKind}
use Rattle.sheet.specs.declared.BlockKind.TheVariants as kind
use Rattle.events.specs.declared.Between.{Between}
use Rattle.events.specs.declared.Between.TheVariants as between
use Rattle.events.specs.declared.ComponentEvent.{ComponentEvent}
use Rattle.events.specs.declared.ComponentEvent.TheVariants as component
use Rattle.events.specs.declared.Inside.{Inside}
use Rattle.events.specs.declared.Inside.TheVariants as inside
use Rattle.events.specs.declared.Severity.{Severity}
use Rattle.events.specs.declared.EventView.{EventView}
use Rattle.events.specs.declared.EventView.TheVariants as event
use Rattle.config_keys.specs.Keys.{key_in}
use Rattle.config_keys.specs.declared.Key.{Key}
use Rattle.config_keys.specs.declared.Key.TheVariants.{Define as DefineKey}
use Rattle.sheet.specs.declared.Define.{Define}
use Rattle.sheet.specs.declared.Define.TheVariants as define
use Rattle.model.specs.declared.Open.{Open}
use Rattle.model.specs.declared.Open.TheVariants as block
use Rattle.metadata.proofs.Whole.{key_at_lem, value_at_lem}
use Rattle.following.specs.declared.Follow.{Follow}
use Rattle.following.specs.declared.Meta.{Meta}
use Rattle.following.specs.declared.Meta.TheVariants.{Ordinary}
use Rattle.following.specs.Drawn.{define_in, keeps, opens_as}
use Rattle.following.specs.Follow.{word_meta, define_meta, key_meta, meta_of, meta_follow, section_follow, start_follow, close_follow, counter_after, count_component, component_follow, inside_follow, between_follow, next_follow, with_inline, MetaRead, BetweenFollowed, EventFollowed, ComponentCounted, InsideFollowed, Followed}
use Rattle.following.proofs.Laws.{follows_next}
use Rattle.parts.specs.declared.QuantityView.{QuantityView}
use Rattle.components.specs.declared.Intermediate.{Intermediate}

-- what is said of a variant is said of a value that is the variant
pub arm : {A B : Type 0} (g : A → B) {x : A} (y : A) {r : B} → r ≡ g y → x ≡ y → r ≡ g x
arm g y e q = e ∙ ap g (sym q)

-- ---- `meta` lines

word_back : (o : Option Define) → word_meta o ≡ define_meta (on_some define_of o)
unfolding define_meta define_in define_of on_some
word_back None = refl
word_back (Some define.All) = refl
word_back (Some define.Components) = refl
word_back (Some define.Steps) = refl
word_back (Some define.Text) = refl

pub meta_off : {flags : ℕ} {line : List ℕ} {k v : TextView} → (flags % 2 ≡ 1 → ⊥) → MetaRead flags line k v Ordinary
unfolding meta_of has_modes key_meta
meta_off {flags} n = record { is = rw (ne_eqb (flags % 2) 1 n) }

module _ {flags : ℕ} {line : List ℕ} {key value : TextView} (on : flags % 2 ≡ 1) (kz : TextWithin line key) (kb : List ℕ) (kp : kb ≡ part_of line key.content) (x : Key) (g : key_in x ≡ key_of (text_trimmed (contents.content_in kb))) where
  -- the key is y
  pub meta_key : (y : Key) {r : Meta} → x ≡ y → r ≡ key_meta (key_in y) (word_in (value_text (text_in line value)) define_words) → MetaRead flags line key value r
  unfolding meta_of
  meta_key y e q = record { is = q ∙ ap (λ (z : modes.Key). key_meta z (word_in (value_text (text_in line value)) define_words)) (sym (key_at_lem flags line key x y kb on kz kp g e)) }

  pub meta_define : TextWithin line value → (vb : List ℕ) → vb ≡ part_of line value.content → (m : Option Define) {r : Meta} → x ≡ DefineKey
      → on_some define_of m ≡ word_in (text_outer_trimmed (contents.content_in vb)) define_words → r ≡ word_meta m → MetaRead flags line key value r
  unfolding key_in key_meta
  meta_define vz vb vp m e q w = meta_key DefineKey e (w ∙ (word_back m ∙ (ap define_meta q ∙ ap (λ (cs : List ℕ). define_meta (word_in cs define_words)) (value_at_lem line value vb vz vp))))

-- ---- blocks

pub keeps_step : (d : Define) {b : Open} {x : Bool} → x ≡ is_components (define_of d) → b ≡ block.Step → not x ≡ keeps d b
unfolding keeps
keeps_step d e k = arm (keeps d) block.Step (ap not e) k

pub keeps_text : (d : Define) {b : Open} → (b ≡ block.Text) ⊎ (b ≡ block.TextMode) → true ≡ keeps d b
unfolding keeps
keeps_text d (inl k) = arm (keeps d) block.Text refl k
keeps_text d (inr k) = arm (keeps d) block.TextMode refl k

pub opens_text : (d : Define) (k : BlockKind) {x : Bool} → x ≡ is_text (define_of d) → x ≡ true → block.TextMode ≡ opens_as d (block_in k)
unfolding opens_as block_in
opens_text d kind.Step e q = ap (λ (b : Bool). pick b block.TextMode block.Step) (sym q ∙ e)
opens_text d kind.Text e q = ap (λ (b : Bool). pick b block.TextMode block.Text) (sym q ∙ e)

pub opens_step : (d : Define) {k : BlockKind} {x : Bool} → x ≡ is_text (define_of d) → x ≡ false → k ≡ kind.Step → block.Step ≡ opens_as d (block_in k)
unfolding opens_as block_in
opens_step d e q k = arm (λ (b : BlockKind). opens_as d (block_in b)) kind.Step (ap (λ (b : Bool). pick b block.TextMode block.Step) (sym q ∙ e)) k

pub opens_block : (d : Define) {k : BlockKind} {x : Bool} → x ≡ is_text (define_of d) → x ≡ false → k ≡ kind.Text → block.Text ≡ opens_as d (block_in k)
unfolding opens_as block_in
opens_block d e q k = arm (λ (b : BlockKind). opens_as d (block_in b)) kind.Text (ap (λ (b : Bool). pick b block.TextMode block.Text) (sym q ∙ e)) k

abbrev pub start_as : Bool → Open → Follow → Follow
start_as s b f =
    record { define = f.define; block = b; shown = s; counter = f.counter; ingredients = f.ingredients; cookware = f.cookware; timers = f.timers; inline = f.inline; old = f.old }

start_as_lem : {s : Bool} (b : Open) (f : Follow) → s ≡ (f.shown || keeps f.define b) → start_as s b f ≡ start_follow b f
unfolding start_follow
start_as_lem b f q = ap (λ (x : Bool). start_as x b f) q

or_yes : (a k : Bool) → a ≡ true → a ≡ (a || k)
or_yes a k q = rw q

or_no : (a k : Bool) → a ≡ false → k ≡ (a || k)
or_no a k q = rw q

pub start_shown : (b : Open) (f : Follow) → f.shown ≡ true → start_as f.shown b f ≡ start_follow b f
start_shown b f q = start_as_lem b f (or_yes f.shown (keeps f.define b) q)

pub start_new : (b : Open) (f : Follow) {k : Bool} → k ≡ keeps f.define b → f.shown ≡ false → start_as k b f ≡ start_follow b f
start_new b f e q = start_as_lem b f (e ∙ or_no f.shown (keeps f.define b) q)

pub counter_dropped : (f : Follow) {b : Open} {x : Bool} → x ≡ is_components (define_of f.define) → x ≡ true → b ≡ block.Step → f.counter ≡ counter_after b f
unfolding counter_after
counter_dropped f e q k = arm (λ (o : Open). counter_after o f) block.Step (ap (λ (b : Bool). pick b f.counter (suc f.counter)) (sym q ∙ e)) k

pub counter_kept : (f : Follow) {b : Open} {x : Bool} → x ≡ is_components (define_of f.define) → x ≡ false → b ≡ block.Step → f.counter + 1 ≡ counter_after b f
unfolding counter_after
counter_kept f e q k = arm (λ (o : Open). counter_after o f) block.Step (add-one f.counter ∙ ap (λ (b : Bool). pick b f.counter (suc f.counter)) (sym q ∙ e)) k

-- ---- components

abbrev pub counts_as : ℕ → ℕ → ℕ → Follow → Follow
counts_as i c t f =
    record { define = f.define; block = f.block; shown = f.shown; counter = f.counter; ingredients = i; cookware = c; timers = t; inline = f.inline; old = f.old }

module _ {c : ComponentEvent} (f : Follow) where
  pub counted_ingredient : (v : ComponentView) (i : Option Intermediate) → c ≡ component.Ingredient v i → ComponentCounted c f (counts_as (f.ingredients + 1) f.cookware f.timers f)
  unfolding count_component component_event_in
  counted_ingredient v i q = record { at = λ line. arm (λ (x : ComponentEvent). count_component (component_event_in line x) f) (component.Ingredient v i) (ap (λ (n : ℕ). counts_as n f.cookware f.timers f) (add-one f.ingredients)) q }

  pub counted_cookware : (v : ComponentView) → c ≡ component.Cookware v → ComponentCounted c f (counts_as f.ingredients (f.cookware + 1) f.timers f)
  unfolding count_component component_event_in
  counted_cookware v q = record { at = λ line. arm (λ (x : ComponentEvent). count_component (component_event_in line x) f) (component.Cookware v) (ap (λ (n : ℕ). counts_as f.ingredients n f.timers f) (add-one f.cookware)) q }

  pub counted_timer : (s : Span) (n : Option TextView) (a : Option QuantityView) → c ≡ component.Timer s n a → ComponentCounted c f (counts_as f.ingredients f.cookware (f.timers + 1) f)
  unfolding count_component component_event_in
  counted_timer s n a q = record { at = λ line. arm (λ (x : ComponentEvent). count_component (component_event_in line x) f) (component.Timer s n a) (ap (λ (m : ℕ). counts_as f.ingredients f.cookware m f) (add-one f.timers)) q }

-- ---- lines in a block

module _ {i : Inside} {f : Follow} where
  pub inside_end : (k : BlockKind) {n : ℕ} {r : Follow} → i ≡ inside.End k → n ≡ counter_after f.block f → r ≡ close_follow n f → InsideFollowed i f r
  unfolding inside_follow inside_in
  inside_end k q e w = record { at = λ line. arm (λ (x : Inside). inside_follow (inside_in line x) f) (inside.End k) (w ∙ ap (λ (n : ℕ). close_follow n f) e) q }

  pub inside_text : (t : TextView) → i ≡ inside.Text t → InsideFollowed i f f
  unfolding inside_follow inside_in
  inside_text t q = record { at = λ line. arm (λ (x : Inside). inside_follow (inside_in line x) f) (inside.Text t) refl q }

  -- a component in the block o
  inside_component : (c : ComponentEvent) (o : Open) {r : Follow} → i ≡ inside.Component c → f.block ≡ o → ((line : List ℕ) → r ≡ component_follow (component_event_in line c) o f) → InsideFollowed i f r
  unfolding inside_follow inside_in
  inside_component c o q b e = record { at = λ line. arm (λ (x : Inside). inside_follow (inside_in line x) f) (inside.Component c) (arm (λ (y : Open). component_follow (component_event_in line c) y f) o (e line) b) q }

  pub component_none : (c : ComponentEvent) → i ≡ inside.Component c → f.block ≡ block.Nothing → InsideFollowed i f f
  unfolding component_follow
  component_none c q b = inside_component c block.Nothing q b (λ line. refl)

  pub component_step : (c : ComponentEvent) {r : Follow} → i ≡ inside.Component c → f.block ≡ block.Step → ComponentCounted c f r → InsideFollowed i f r
  unfolding component_follow
  component_step c q b e = inside_component c block.Step q b e.at

  pub component_text : (c : ComponentEvent) → i ≡ inside.Component c → f.block ≡ block.Text → InsideFollowed i f f
  unfolding component_follow
  component_text c q b = inside_component c block.Text q b (λ line. refl)

  pub component_mode : (c : ComponentEvent) → i ≡ inside.Component c → f.block ≡ block.TextMode → InsideFollowed i f f
  unfolding component_follow
  component_mode c q b = inside_component c block.TextMode q b (λ line. refl)

-- ---- lines between blocks

pub within_meta : (line : List ℕ) {b : Between} (k v : TextView) → b ≡ between.Meta k v → BetweenWithin line b → TextWithin line k × TextWithin line v
unfolding BetweenWithin
within_meta line k v q z = subst (BetweenWithin line) q z

-- a section is named in the line where it is in the event
named_in : (line : List ℕ) (n : Option TextView) → option.is_some n ≡ is_some (opt_text_in line n)
unfolding opt_text_in is_some
named_in line None = refl
named_in line (Some v) = refl

module _ {flags : ℕ} {line : List ℕ} {b : Between} {f r : Follow} where
  pub between_meta : (k v : TextView) {m : Meta} → b ≡ between.Meta k v → MetaRead flags line k v m → r ≡ meta_follow m f → BetweenFollowed flags line b f r
  unfolding between_follow between_in
  between_meta k v q e w = record { is = arm (λ (x : Between). between_follow flags (between_in line x) f) (between.Meta k v) (w ∙ ap (λ (m : Meta). meta_follow m f) e.is) q }

  pub between_section : (n : Option TextView) {x : Bool} → b ≡ between.Section n → x ≡ option.is_some n → r ≡ section_follow x f → BetweenFollowed flags line b f r
  unfolding between_follow between_in
  between_section n q e w = record { is = arm (λ (x : Between). between_follow flags (between_in line x) f) (between.Section n) (w ∙ ap (λ (x : Bool). section_follow x f) (e ∙ named_in line n)) q }

  pub between_start : (k : BlockKind) {o : Open} → b ≡ between.Start k → o ≡ opens_as f.define (block_in k) → r ≡ start_follow o f → BetweenFollowed flags line b f r
  unfolding between_follow between_in
  between_start k q e w = record { is = arm (λ (x : Between). between_follow flags (between_in line x) f) (between.Start k) (w ∙ ap (λ (o : Open). start_follow o f) e) q }

-- ---- every line

pub within_between : (line : List ℕ) {e : EventView} (b : Between) → e ≡ event.Between b → EventWithin line e → BetweenWithin line b
unfolding EventWithin
within_between line b q z = subst (EventWithin line) q z

module _ {flags : ℕ} {line : List ℕ} {e : EventView} {f r : Follow} where
  pub event_between : (b : Between) → e ≡ event.Between b → BetweenFollowed flags line b f r → EventFollowed flags line e f r
  unfolding next_follow event_in
  event_between b q w = record { is = arm (λ (x : EventView). next_follow flags (event_in line x) f) (event.Between b) w.is q }

  pub event_inside : (i : Inside) → e ≡ event.Inside i → InsideFollowed i f r → EventFollowed flags line e f r
  unfolding next_follow event_in
  event_inside i q w = record { is = arm (λ (x : EventView). next_follow flags (event_in line x) f) (event.Inside i) (w.at line) q }

pub event_finding : {flags : ℕ} {line : List ℕ} {e : EventView} {f : Follow} (s : Severity) (n : ℕ) → e ≡ event.Finding s n → EventFollowed flags line e f f
unfolding next_follow event_in
event_finding {flags} {line} {f = f} s n q = record { is = arm (λ (x : EventView). next_follow flags (event_in line x) f) (event.Finding s n) refl q }

pub followed : {flags : ℕ} {line : List ℕ} {e : EventView} {f g r : Follow} (n : ℕ) → EventFollowed flags line e f g → r ≡ with_inline (f.inline + n) g → Followed flags line e n f r
followed {flags} {line} {e} {f} n a w =
    let q = w ∙ ap (with_inline (f.inline + n)) a.is in
    record { is = q; by = λ cx c st st' z g l. follows_next cx (event_in line e) st' (f.inline + n) z g l (rw c q) }
