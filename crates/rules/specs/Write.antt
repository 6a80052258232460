-- The line of an event: the inverse of its reading, since each content has one spelling.
use Rattle.std.specs.Prelude.{ℕ, List, [], ◌∷◌, ◌++◌, Option, None, Some}
use Rattle.rules.specs.Basic.{pick, codes, minus, when, decimal}
use Rattle.rules.specs.Utf8.{encode}
use Rattle.rules.specs.Sheet.{Signed, line_of}
use Rattle.rules.specs.Words.{BlockKind, step_kind, text_kind, ValueKind, number, range, textual, IntermediateTarget, target_step, target_section, severe, mild}
use Rattle.rules.specs.Event.{Span, Text, Quantity, Modifiers, Component, Intermediate, ComponentEvent, Event, meta_event, section_event, start_event, end_event, text_event, component_event, ingredient_event, cookware_event, timer_event, between, inside, parser_event}
use Rattle.rules.specs.Read.{Fields}

module _ {A : Type 0} (write : A → Fields) where
  unfoldable pub opt_fields : Option A → Fields
  opt_fields None = codes "-" ∷ []
  opt_fields (Some a) = write a

unfoldable pub span_fields : Span → Fields
span_fields s = decimal s.start ∷ decimal s.end ∷ []

unfoldable pub text_fields : Text → Fields
text_fields t = span_fields t.span ++ (encode t.content ∷ [])

unfoldable pub kind_field : ValueKind → List ℕ
kind_field number = codes "n"
kind_field range = codes "r"
kind_field textual = codes "t"

unfoldable pub quantity_fields : Quantity → Fields
quantity_fields q =
    span_fields q.span ++ (kind_field q.kind ∷ []) ++ span_fields q.value_span
    ++ (encode q.value ∷ pick q.lock (codes "l") (codes "-") ∷ []) ++ opt_fields text_fields q.unit

unfoldable pub or_point : List ℕ → List ℕ
or_point [] = codes "."
or_point (c ∷ s) = c ∷ s

unfoldable pub modifiers_field : Modifiers → List ℕ
modifiers_field m = or_point (when m.recipe 64 ++ when m.ref 38 ++ when m.hidden 45 ++ when m.opt 63 ++ when m.new 43)

unfoldable pub named_fields : Component → Fields
named_fields c =
    span_fields c.span ++ text_fields c.name ++ opt_fields text_fields c.alias ++ opt_fields quantity_fields c.quantity
    ++ opt_fields text_fields c.note ++ (modifiers_field c.modifiers ∷ []) ++ span_fields c.modifiers_span

unfoldable pub signed_field : Signed → List ℕ
signed_field v = when v.negative minus ++ decimal v.size

unfoldable pub target_field : IntermediateTarget → List ℕ
target_field target_step = codes "step"
target_field target_section = codes "section"

unfoldable pub intermediate_fields : Intermediate → Fields
intermediate_fields i =
    (pick i.relative (codes "r") (codes "n") ∷ target_field i.target ∷ signed_field i.value ∷ []) ++ span_fields i.span

unfoldable pub block_kind_field : BlockKind → List ℕ
block_kind_field step_kind = codes "step"
block_kind_field text_kind = codes "text"

unfoldable pub component_fields : ComponentEvent → Fields
component_fields (ingredient_event c i) = codes "ingredient" ∷ (named_fields c ++ opt_fields intermediate_fields i)
component_fields (cookware_event c) = codes "cookware" ∷ named_fields c
component_fields (timer_event s n q) = codes "timer" ∷ (span_fields s ++ opt_fields text_fields n ++ opt_fields quantity_fields q)

unfoldable pub event_fields : Event → Fields
event_fields (between (meta_event k v)) = codes "meta" ∷ (text_fields k ++ text_fields v)
event_fields (between (section_event n)) = codes "section" ∷ opt_fields text_fields n
event_fields (between (start_event k)) = codes "start" ∷ block_kind_field k ∷ []
event_fields (inside (end_event k)) = codes "end" ∷ block_kind_field k ∷ []
event_fields (inside (text_event t)) = codes "text" ∷ text_fields t
event_fields (inside (component_event c)) = component_fields c
event_fields (parser_event severe n) = codes "error" ∷ decimal n ∷ []
event_fields (parser_event mild n) = codes "warning" ∷ decimal n ∷ []

-- the line of an event, with its LF
unfoldable pub write_line : Event → List ℕ
write_line e = line_of (event_fields e)
