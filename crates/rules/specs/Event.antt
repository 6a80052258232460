-- The events as data (src/parser/model.rs, src/parser/mod.rs; document 01, "The event sheet").
use Rattle.std.specs.Prelude.{ℕ, List, [], ◌∷◌, ◌++◌, Bool, Option, None, Some}
use Rattle.rules.specs.Sheet.{Signed}
use Rattle.rules.specs.Words.{BlockKind, ValueKind, IntermediateTarget, Severity}

-- "A *span* is two fields."
pub record Span : Type 0 where
  pub start : ℕ
  pub end : ℕ

-- "A *text* is a span and its content." The content is code points.
pub record Text : Type 0 where
  pub span : Span
  pub content : List ℕ

-- "Quantity: span; `n`, `r` or `t`; value span; value content; lock `l` or `-`; opt unit text."
pub record Quantity : Type 0 where
  pub span : Span
  pub kind : ValueKind
  pub value_span : Span
  pub value : List ℕ
  pub lock : Bool
  pub unit : Option Text

-- "letters in the order `@&-?+` (RECIPE, REF, HIDDEN, OPT, NEW)"
pub record Modifiers : Type 0 where
  pub recipe : Bool
  pub ref : Bool
  pub hidden : Bool
  pub opt : Bool
  pub new : Bool

-- what `ingredient` and `cookware` have in common
pub record Component : Type 0 where
  pub span : Span
  pub name : Text
  pub alias : Option Text
  pub quantity : Option Quantity
  pub note : Option Text
  pub modifiers : Modifiers
  pub modifiers_span : Span

-- "Intermediate: `n` or `r`; `step` or `section`; −32768 to 32767; span."
pub record Intermediate : Type 0 where
  pub relative : Bool
  pub target : IntermediateTarget
  pub value : Signed
  pub span : Span

-- "*Component*: an `ingredient`, `cookware` or `timer` line."
pub data ComponentEvent : Type 0 where
  ingredient_event : Component → Option Intermediate → ComponentEvent
  cookware_event : Component → ComponentEvent
  timer_event : Span → Option Text → Option Quantity → ComponentEvent

-- lines that stand between blocks (11 in an open one)
pub data Between : Type 0 where
  meta_event : Text → Text → Between
  section_event : Option Text → Between
  start_event : BlockKind → Between

-- lines that stand in a block (12 in none)
pub data Inside : Type 0 where
  end_event : BlockKind → Inside
  text_event : Text → Inside
  component_event : ComponentEvent → Inside

-- "`error` number; `warning` number: parser findings, stage Parse"
pub data Event : Type 0 where
  between : Between → Event
  inside : Inside → Event
  parser_event : Severity → ℕ → Event

-- the span of a whole component
unfoldable pub component_span : ComponentEvent → Span
component_span (ingredient_event c i) = c.span
component_span (cookware_event c) = c.span
component_span (timer_event s n q) = s

-- ---- every span of a line, in the line's order (10)

unfoldable pub text_spans : Option Text → List Span
text_spans None = []
text_spans (Some t) = t.span ∷ []

unfoldable pub quantity_spans : Option Quantity → List Span
quantity_spans None = []
quantity_spans (Some q) = q.span ∷ q.value_span ∷ text_spans q.unit

unfoldable pub intermediate_spans : Option Intermediate → List Span
intermediate_spans None = []
intermediate_spans (Some i) = i.span ∷ []

unfoldable pub named_spans : Component → List Span
named_spans c =
    (c.span ∷ c.name.span ∷ text_spans c.alias)
    ++ quantity_spans c.quantity ++ text_spans c.note ++ (c.modifiers_span ∷ [])

unfoldable pub component_spans : ComponentEvent → List Span
component_spans (ingredient_event c i) = named_spans c ++ intermediate_spans i
component_spans (cookware_event c) = named_spans c
component_spans (timer_event s n q) = (s ∷ text_spans n) ++ quantity_spans q

unfoldable pub spans_of : Event → List Span
spans_of (between (meta_event k v)) = k.span ∷ v.span ∷ []
spans_of (between (section_event n)) = text_spans n
spans_of (between (start_event k)) = []
spans_of (inside (end_event k)) = []
spans_of (inside (text_event t)) = t.span ∷ []
spans_of (inside (component_event c)) = component_spans c
spans_of (parser_event s n) = []
