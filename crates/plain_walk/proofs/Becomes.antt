-- What each kind of line becomes.
use Prim.Native.Nat.{ℕ}
use mathlib.Core.Path.{◌≡◌, refl, sym, ap, ◌∙◌, subst}
use mathlib.Core.List.{List, [], ◌∷◌}
use mathlib.Core.Bool.{Bool, true, false, ◌&&◌}
use Rattle.std.specs.Prelude.{Option, None, Some}
use lib.ListN.{length}
use Rattle.rules.specs.Basic.{all}
use Rattle.rules.specs.Text.{text_trimmed}
use Rattle.rules.specs.Event as rules
use Rattle.rules.specs.Event.{spans_of, component_span, component_spans, named_spans}
use Rattle.rules.specs.Modes.{is_components, is_text, has_modes, key_of, key_text}
use Rattle.rules.specs.Plain.{is_mode_key, in_plain_text}
use Rattle.rules.specs.Pass.{source_text}
use Rattle.rules.specs.Answer.{is_good_span}
use Rattle.rules.proofs.Basics.{and_left}
use Rattle.config_keys.specs.Keys.{HeededKey}
use Rattle.parts.specs.Views.{text_in, TextWithin, part_of}
use Rattle.parts.specs.declared.Span.{Span}
use Rattle.parts.specs.declared.TextView.{TextView}
use Rattle.components.specs.Views as views
use Rattle.components.specs.declared.ComponentView.{ComponentView}
use Rattle.events.specs.Views.{between_in, component_event_in, inside_in, event_in, BetweenWithin, EventWithin}
use Rattle.sheet.specs.declared.BlockKind.{BlockKind}
use Rattle.sheet.specs.declared.BlockKind.TheVariants as kind
use Rattle.events.specs.declared.Between.{Between}
use Rattle.events.specs.declared.Between.TheVariants as between
use Rattle.events.specs.declared.Severity.{Severity}
use Rattle.events.specs.declared.ComponentEvent.{ComponentEvent}
use Rattle.events.specs.declared.ComponentEvent.TheVariants as component
use Rattle.events.specs.declared.Inside.{Inside}
use Rattle.events.specs.declared.Inside.TheVariants as inside
use Rattle.events.specs.declared.EventView.{EventView}
use Rattle.events.specs.declared.EventView.TheVariants as event
use Rattle.known_events.specs.Fields.{ComponentFields, ComponentEventFields, InsideFields, EventFields}
use Rattle.metadata.proofs.Whole.{text_content}
use Rattle.model.specs.Kinds.{kind_of}
use Rattle.model.specs.Memory.{rows_in}
use Rattle.model.specs.declared.Kind.{Kind}
use Rattle.model.specs.declared.Kind.TheVariants.{Ingredient, Cookware}
use Rattle.model.specs.declared.Open.{Open}
use Rattle.model.specs.declared.Open.TheVariants as block
use Rattle.blocks.specs.Lined.{SpanOf}
use Rattle.following.specs.declared.Follow.{Follow}
use Rattle.plain_lines.specs.Lines as lines
use Rattle.plain_lines.specs.Lines.{source_at}
use Rattle.plain_walk.specs.Rows.{marked_as, implicit_row, implicit_in}
use Rattle.plain_walk.specs.Lines.{unless_dropped, between_plain, ingredient_plain, component_plain, step_plain, inside_plain, plain_in}
use Rattle.plain_walk.specs.Becomes.{plain_as, PlainFit, row_plain, StartTold, BetweenTold, ComponentTold, BlockTold, TextTold, EventTold}
use Rattle.plain_walk.specs.declared.Plain.{Plain}
use Rattle.plain_walk.specs.declared.Plain.TheVariants.{Dropped, Copied, StartText, EndText, Source}
use Rattle.plain_walk.proofs.FaultLines.{kind_event, row_next}
use Rattle.parts.specs.declared.QuantityView.{QuantityView}
use Rattle.components.specs.declared.Intermediate.{Intermediate}
use Rattle.sheet.specs.Words.{block_in, define_of}

-- ---- `meta` lines

pub mode_line : {flags : ℕ} (line : List ℕ) (key : TextView) → TextWithin line key → {f : List ℕ} {r : Bool} → f ≡ part_of line key.content → HeededKey flags f r → r ≡ (has_modes flags && is_mode_key (key_of (key_text (text_in line key))))
unfolding key_text
mode_line {flags} line key z e h = h.is ∙ ap (λ (cs : List ℕ). has_modes flags && is_mode_key (key_of (text_trimmed cs))) (text_content line key z e)

pub meta_within : (line : List ℕ) {b : Between} (k v : TextView) → b ≡ between.Meta k v → BetweenWithin line b → TextWithin line k
unfolding BetweenWithin
meta_within line k v q z = (subst (BetweenWithin line) q z).0

-- ---- lines between blocks

module _ (f : Follow) {k : BlockKind} where
  -- a `start` of the kind y
  start_as_lem : (y : BlockKind) {r : Plain} → k ≡ y → ((flags : ℕ) (line : List ℕ) → BetweenTold flags line (between.Start y) f r) → StartTold k f r
  start_as_lem y {r} q g = record { at = λ flags line. subst (λ (x : BlockKind). BetweenTold flags line (between.Start x) f r) (sym q) (g flags line) }

  pub start_text : k ≡ kind.Text → StartTold k f Copied
  unfolding plain_as between_in block_in between_plain PlainFit
  start_text q = start_as_lem kind.Text q (λ flags line. record { at = λ text. refl; fit = λ text. tt })

  module _ (q : k ≡ kind.Step) {x : Bool} (e : x ≡ is_text (define_of f.define)) where
    pub start_mode : x ≡ true → StartTold k f StartText
    unfolding plain_as between_in block_in between_plain PlainFit
    start_mode t = start_as_lem kind.Step q (λ flags line. record { at = λ text. rw (← e, t); fit = λ text. tt })

    module _ (t : x ≡ false) {y : Bool} (d : y ≡ is_components (define_of f.define)) where
      pub start_dropped : y ≡ true → StartTold k f Dropped
      unfolding plain_as between_in block_in between_plain unless_dropped PlainFit
      start_dropped u = start_as_lem kind.Step q (λ flags line. record { at = λ text. rw (← e, t, ← d, u); fit = λ text. tt })

      pub start_step : y ≡ false → StartTold k f Copied
      unfolding plain_as between_in block_in between_plain unless_dropped PlainFit
      start_step u = start_as_lem kind.Step q (λ flags line. record { at = λ text. rw (← e, t, ← d, u); fit = λ text. tt })

module _ (flags : ℕ) (line : List ℕ) (f : Follow) {b : Between} where
  between_as : (y : Between) {r : Plain} → b ≡ y → BetweenTold flags line y f r → BetweenTold flags line b f r
  between_as y {r} q g = subst (λ (x : Between). BetweenTold flags line x f r) (sym q) g

  module _ (k v : TextView) (q : b ≡ between.Meta k v) {x : Bool} (e : x ≡ (has_modes flags && is_mode_key (key_of (key_text (text_in line k))))) where
    pub meta_dropped : x ≡ true → BetweenTold flags line b f Dropped
    unfolding plain_as between_in between_plain PlainFit
    meta_dropped t = between_as (between.Meta k v) q (record { at = λ text. rw (← e, t); fit = λ text. tt })

    pub meta_kept : x ≡ false → BetweenTold flags line b f Copied
    unfolding plain_as between_in between_plain PlainFit
    meta_kept t = between_as (between.Meta k v) q (record { at = λ text. rw (← e, t); fit = λ text. tt })

  pub section_kept : (n : Option TextView) → b ≡ between.Section n → BetweenTold flags line b f Copied
  unfolding plain_as between_in between_plain PlainFit
  section_kept n q = between_as (between.Section n) q (record { at = λ text. refl; fit = λ text. tt })

  pub start_told : (k : BlockKind) {r : Plain} → b ≡ between.Start k → StartTold k f r → BetweenTold flags line b f r
  start_told k q g = between_as (between.Start k) q (g.at flags line)

-- ---- components in a step

-- what is made of one by what its row refers to without REF
module _ (text line : List ℕ) (v : ComponentView) where
  ingredient_at : (i : Option Intermediate) (to : Option ℕ) → plain_as text line (rules.inside (rules.component_event (rules.ingredient_event (views.component_in line v) (views.opt_intermediate_in i)))) (row_plain Ingredient v to)
      ≡ rules.inside (rules.component_event (ingredient_plain (views.component_in line v) (views.opt_intermediate_in i) to)) ∷ []
  unfolding plain_as row_plain ingredient_plain lines.marked_as
  ingredient_at i None = refl
  ingredient_at i (Some d) = refl

  cookware_at : (to : Option ℕ) → plain_as text line (rules.inside (rules.component_event (rules.cookware_event (views.component_in line v)))) (row_plain Cookware v to)
      ≡ rules.inside (rules.component_event (rules.cookware_event (marked_as (views.component_in line v) to))) ∷ []
  unfolding plain_as row_plain marked_as lines.marked_as
  cookware_at None = refl
  cookware_at (Some d) = refl

  row_fit : (k : Kind) (to : Option ℕ) → ComponentFields line v → PlainFit text line (row_plain k v to)
  unfolding row_plain PlainFit
  row_fit k None z = tt
  row_fit k (Some d) z = z

module _ (w : List ℕ) (f : Follow) {c : ComponentEvent} where
  component_as_lem : (y : ComponentEvent) {r : Plain} → c ≡ y → ComponentTold w y f r → ComponentTold w c f r
  component_as_lem y {r} q g = subst (λ (x : ComponentEvent). ComponentTold w x f r) (sym q) g

  pub row_told : (k : Kind) (v : ComponentView) (i : Option Intermediate) {r : Plain} → c ≡ kind_event k v i
      → r ≡ row_plain k v (implicit_row (rows_in (kind_of k) w) v.modifiers.reference (row_next k f)) → ComponentTold w c f r
  unfolding component_event_in component_plain implicit_in views.component_in views.modifiers_in ComponentEventFields
  row_told Ingredient v i q e = component_as_lem (component.Ingredient v i) q (rw e (record { at = λ text line. ingredient_at text line v i _; fit = λ text line z. row_fit text line v Ingredient _ z }))
  row_told Cookware v i q e = component_as_lem (component.Cookware v) q (rw e (record { at = λ text line. cookware_at text line v _; fit = λ text line z. row_fit text line v Cookware _ z }))

  pub timer_kept : (s : Span) (n : Option TextView) (a : Option QuantityView) → c ≡ component.Timer s n a → ComponentTold w c f Copied
  unfolding plain_as component_event_in component_plain PlainFit
  timer_kept s n a q = component_as_lem (component.Timer s n a) q (record { at = λ text line. refl; fit = λ text line z. tt })

-- ---- lines in a block

module _ (w : List ℕ) (f : Follow) {i : Inside} where
  block_as_lem : (b : Open) (y : Inside) {r : Plain} → i ≡ y → BlockTold w y b f r → BlockTold w i b f r
  block_as_lem b y {r} q g = subst (λ (x : Inside). BlockTold w x b f r) (sym q) g

  module _ {x : Bool} (e : x ≡ is_components (define_of f.define)) where
    pub step_dropped : x ≡ true → BlockTold w i block.Step f Dropped
    unfolding plain_as inside_plain unless_dropped PlainFit
    step_dropped t = record { at = λ text line. rw (← e, t); fit = λ text line z s. tt }

    module _ (t : x ≡ false) where
      pub step_end : (k : BlockKind) → i ≡ inside.End k → BlockTold w i block.Step f Copied
      unfolding plain_as inside_plain unless_dropped step_plain inside_in PlainFit
      step_end k q = block_as_lem block.Step (inside.End k) q (record { at = λ text line. rw (← e, t); fit = λ text line z s. tt })

      pub step_text : (v : TextView) → i ≡ inside.Text v → BlockTold w i block.Step f Copied
      unfolding plain_as inside_plain unless_dropped step_plain inside_in PlainFit
      step_text v q = block_as_lem block.Step (inside.Text v) q (record { at = λ text line. rw (← e, t); fit = λ text line z s. tt })

      pub step_component : (c : ComponentEvent) {r : Plain} → i ≡ inside.Component c → ComponentTold w c f r → BlockTold w i block.Step f r
      unfolding inside_plain unless_dropped step_plain inside_in InsideFields
      step_component c q g = block_as_lem block.Step (inside.Component c) q (record { at = λ text line. rw (← e, t) (g.at text line); fit = λ text line z s. g.fit text line z })

  pub block_nothing : BlockTold w i block.Nothing f Copied
  unfolding plain_as inside_plain PlainFit
  block_nothing = record { at = λ text line. refl; fit = λ text line z s. tt }

  pub block_text : BlockTold w i block.Text f Copied
  unfolding plain_as inside_plain PlainFit
  block_text = record { at = λ text line. refl; fit = λ text line z s. tt }

  -- the open block is b
  pub block_is : (b : Open) {r : Plain} → f.block ≡ b → BlockTold w i b f r → BlockTold w i f.block f r
  block_is b {r} q g = subst (λ (x : Open). BlockTold w i x f r) (sym q) g

-- the first span of a component is the whole of it
first_good : (text line : List ℕ) (c : ComponentEvent) → all (is_good_span text (length text)) (spans_of (rules.inside (inside_in line (inside.Component c)))) ≡ true
    → is_good_span text (length text) (component_span (component_event_in line c)) ≡ true
unfolding spans_of inside_in component_event_in component_spans named_spans component_span all views.component_in
first_good text line (component.Ingredient v i) h = and_left _ _ h
first_good text line (component.Cookware v) h = and_left _ _ h
first_good text line (component.Timer s n q) h = and_left _ _ h

module _ {i : Inside} where
  text_as : (y : Inside) {r : Plain} → i ≡ y → TextTold y r → TextTold i r
  text_as y {r} q g = subst (λ (x : Inside). TextTold x r) (sym q) g

  pub mode_end : (k : BlockKind) → i ≡ inside.End k → TextTold i EndText
  unfolding plain_as inside_plain in_plain_text inside_in PlainFit
  mode_end k q = text_as (inside.End k) q (record { at = λ w f. record { at = λ text line. refl; fit = λ text line z s. tt } })

  pub mode_text : (v : TextView) → i ≡ inside.Text v → TextTold i Copied
  unfolding plain_as inside_plain in_plain_text inside_in PlainFit
  mode_text v q = text_as (inside.Text v) q (record { at = λ w f. record { at = λ text line. refl; fit = λ text line z s. tt } })

  pub mode_component : (c : ComponentEvent) {s : Span} → i ≡ inside.Component c → SpanOf c s → TextTold i (Source s)
  unfolding plain_as inside_plain in_plain_text inside_in source_at PlainFit
  mode_component c {s} q g =
      text_as (inside.Component c) q
      (record {
        at =
            λ w f.
            record {
              at = λ text line. ap (λ (x : rules.Span). rules.inside (rules.text_event (record { span = x; content = source_text text x })) ∷ []) (g.is line);
              fit = λ text line z h. ap (is_good_span text (length text)) (g.is line) ∙ first_good text line c h;
            };
      })

-- ---- every line

module _ (flags : ℕ) (w line : List ℕ) (f : Follow) {e : EventView} where
  event_as_lem : (y : EventView) {r : Plain} → e ≡ y → EventTold flags w line y f r → EventTold flags w line e f r
  event_as_lem y {r} q g = subst (λ (x : EventView). EventTold flags w line x f r) (sym q) g

  pub told_between : (b : Between) {r : Plain} → e ≡ event.Between b → BetweenTold flags line b f r → EventTold flags w line e f r
  unfolding event_in plain_in
  told_between b q g = event_as_lem (event.Between b) q (record { at = g.at; fit = λ text z s. g.fit text })

  pub told_inside : (i : Inside) {r : Plain} → e ≡ event.Inside i → BlockTold w i f.block f r → EventTold flags w line e f r
  unfolding event_in plain_in EventFields
  told_inside i q g = event_as_lem (event.Inside i) q (record { at = λ text. g.at text line; fit = λ text z s. g.fit text line z s })

  pub told_finding : (s : Severity) (n : ℕ) → e ≡ event.Finding s n → EventTold flags w line e f Copied
  unfolding event_in plain_in plain_as PlainFit
  told_finding s n q = event_as_lem (event.Finding s n) q (record { at = λ text. refl; fit = λ text z x. tt })

pub within_between : (line : List ℕ) {e : EventView} (b : Between) → e ≡ event.Between b → EventWithin line e → BetweenWithin line b
unfolding EventWithin
within_between line b q z = subst (EventWithin line) q z
