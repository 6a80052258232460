-- What a line becomes, as the code tells it, and what its writer leaves.
use Rattle.std.specs.Prelude.{ℕ, ◌+◌, ◌≤◌, ◌≡◌, List, [], ◌∷◌, true, length, Option, None, Some}
use Rattle.rules.specs.Basic.{lf, all}
use Rattle.rules.specs.Words.{text_kind}
use Rattle.rules.specs.Event.{start_event, end_event, text_event, component_event, Event, between, inside, spans_of}
use Rattle.rules.specs.Read.{parse_line}
use Rattle.rules.specs.Plain.{sheet_of}
use Rattle.rules.specs.Answer.{is_good_span}
use Rattle.rules.specs.Sheet.{Without}
use Rattle.output.specs.Put.{Put}
use Rattle.parts.specs.Views.{span_in}
use Rattle.components.specs.Views.{component_in}
use Rattle.components.specs.declared.ComponentView.{ComponentView}
use Rattle.events.specs.Views.{between_in, component_event_in, inside_in, event_in}
use Rattle.sheet.specs.declared.BlockKind.{BlockKind}
use Rattle.events.specs.declared.Between.{Between}
use Rattle.events.specs.declared.Between.TheVariants as start
use Rattle.events.specs.declared.ComponentEvent.{ComponentEvent}
use Rattle.events.specs.declared.Inside.{Inside}
use Rattle.events.specs.declared.EventView.{EventView}
use Rattle.known_events.specs.Fields.{ComponentFields, ComponentEventFields, InsideFields, EventFields}
use Rattle.model.specs.Kinds.{kind_of}
use Rattle.model.specs.declared.Kind.{Kind}
use Rattle.model.specs.declared.Open.{Open}
use Rattle.model.specs.declared.Open.TheVariants as block
use Rattle.following.specs.declared.Follow.{Follow}
use Rattle.plain_lines.specs.Lines.{source_at, marked_as}
use Rattle.plain_walk.specs.Lines.{between_plain, component_plain, inside_plain, plain_in}
use Rattle.plain_walk.specs.declared.Plain.{Plain}
use Rattle.plain_walk.specs.declared.Plain.TheVariants.{Dropped, Copied, StartText, EndText, Source, Marked}

-- the lines that e, the event of the line, becomes
unfoldable pub plain_as : List ℕ → List ℕ → Event → Plain → List Event
plain_as text line e Dropped = []
plain_as text line e Copied = e ∷ []
plain_as text line e StartText = between (start_event text_kind) ∷ []
plain_as text line e EndText = inside (end_event text_kind) ∷ []
plain_as text line e (Source s) = inside (text_event (source_at text (span_in s))) ∷ []
plain_as text line e (Marked k v) = inside (component_event (marked_as (kind_of k) (component_in line v))) ∷ []

-- what a writer asks: a good span, a component whose contents are fields of the line
unfoldable pub PlainFit : List ℕ → List ℕ → Plain → Type 0
PlainFit text line Dropped = Unit
PlainFit text line Copied = Unit
PlainFit text line StartText = Unit
PlainFit text line EndText = Unit
PlainFit text line (Source s) = is_good_span text (length text) (span_in s) ≡ true
PlainFit text line (Marked k v) = ComponentFields line v

-- at most as many components as the limits let through
pub record Few (f : Follow) : Type 0 where
  pub ingredients : f.ingredients ≤ 512
  pub cookware : f.cookware ≤ 256

-- ---- what lines become

pub record BetweenTold (flags : ℕ) (line : List ℕ) (b : Between) (f : Follow) (r : Plain) : Type 0 where
  pub at : (text : List ℕ) → plain_as text line (between (between_in line b)) r ≡ between_plain flags (between_in line b) f
  pub fit : (text : List ℕ) → PlainFit text line r

-- `start`
pub record StartTold (k : BlockKind) (f : Follow) (r : Plain) : Type 0 where
  pub at : (flags : ℕ) (line : List ℕ) → BetweenTold flags line (start.Start k) f r

-- a component of a kind, by what its row refers to without REF
unfoldable pub row_plain : Kind → ComponentView → Option ℕ → Plain
row_plain k v None = Copied
row_plain k v (Some d) = Marked k v

-- a component in a step that is kept
pub record ComponentTold (w : List ℕ) (c : ComponentEvent) (f : Follow) (r : Plain) : Type 0 where
  pub at : (text line : List ℕ) → plain_as text line (inside (component_event (component_event_in line c))) r ≡ inside (component_event (component_plain w (component_event_in line c) f)) ∷ []
  pub fit : (text line : List ℕ) → ComponentEventFields line c → PlainFit text line r

-- a line in a block of the kind b, and in text mode
pub record BlockTold (w : List ℕ) (i : Inside) (b : Open) (f : Follow) (r : Plain) : Type 0 where
  pub at : (text line : List ℕ) → plain_as text line (inside (inside_in line i)) r ≡ inside_plain text w (inside_in line i) b f
  pub fit : (text line : List ℕ) → InsideFields line i → all (is_good_span text (length text)) (spans_of (inside (inside_in line i))) ≡ true → PlainFit text line r

pub record TextTold (i : Inside) (r : Plain) : Type 0 where
  pub at : (w : List ℕ) (f : Follow) → BlockTold w i block.TextMode f r

pub record EventTold (flags : ℕ) (w line : List ℕ) (e : EventView) (f : Follow) (r : Plain) : Type 0 where
  pub at : (text : List ℕ) → plain_as text line (event_in line e) r ≡ plain_in text w flags (event_in line e) f
  pub fit : (text : List ℕ) → EventFields line e → all (is_good_span text (length text)) (spans_of (event_in line e)) ≡ true → PlainFit text line r

-- ---- what is written

pub record PlainWritten (text line : List ℕ) (p : Plain) (o₀ : List ℕ) (at : ℕ) (o : List ℕ) (r : ℕ) : Type 0 where
  pub put : (e : Event) → parse_line line ≡ Some e → Without lf line → Put (sheet_of (plain_as text line e p)) o₀ at o r
  pub most : r ≤ length o₀ + 1
