-- What the views of a line stand for, by the rules, and what holds of a view that was read.
use Rattle.std.specs.Prelude.{◌≡◌, ℕ, ◌-◌, ◌≤◌, List, [], ◌∷◌, length, take, drop, Option, None, Some}
use Rattle.rules.specs.Utf8.{chars}
use Rattle.rules.specs.Sheet.{unescape}
use Rattle.rules.specs.Event as rules
use Rattle.parts.specs.declared.Span.{Span}
use Rattle.parts.specs.declared.Part.{Part}
use Rattle.parts.specs.declared.TextView.{TextView}
use Rattle.parts.specs.declared.QuantityView.{QuantityView}
use Rattle.sheet.specs.Words.{kind_in}

-- the bytes of a part of a line
unfoldable pub part_of : List ℕ → Part → List ℕ
part_of line p = take (p.to - p.from) (drop p.from line)

unfoldable pub or_empty : Option (List ℕ) → List ℕ
or_empty None = []
or_empty (Some s) = s

-- they without their escapes, and their code points; none of them where an escape is ill-formed
unfoldable pub bytes_in : List ℕ → Part → List ℕ
bytes_in line p = or_empty (unescape (part_of line p))

unfoldable pub content_in : List ℕ → Part → List ℕ
content_in line p = chars (bytes_in line p)

-- a content that was read
pub record PartWithin (line : List ℕ) (p : Part) : Type 0 where
  pub ordered : p.from ≤ p.to
  pub ends : p.to ≤ length line
  pub well : unescape (part_of line p) ≡ Some (bytes_in line p)

unfoldable pub span_in : Span → rules.Span
span_in s = record { start = s.start; end = s.end }

pub record SpanWithin (s : Span) : Type 0 where
  pub start : s.start ≤ 65535
  pub end : s.end ≤ 65535

unfoldable pub text_in : List ℕ → TextView → rules.Text
text_in line v = record { span = span_in v.span; content = content_in line v.content }

pub record TextWithin (line : List ℕ) (v : TextView) : Type 0 where
  pub span : SpanWithin v.span
  pub content : PartWithin line v.content

unfoldable pub opt_text_in : List ℕ → Option TextView → Option rules.Text
opt_text_in line None = None
opt_text_in line (Some v) = Some (text_in line v)

unfoldable pub OptTextWithin : List ℕ → Option TextView → Type 0
OptTextWithin line None = Unit
OptTextWithin line (Some v) = TextWithin line v

unfoldable pub quantity_in : List ℕ → QuantityView → rules.Quantity
quantity_in line v =
    record {
      span = span_in v.span;
      kind = kind_in v.kind;
      value_span = span_in v.value_span;
      value = content_in line v.value;
      lock = v.lock;
      unit = opt_text_in line v.unit;
    }

pub record QuantityWithin (line : List ℕ) (v : QuantityView) : Type 0 where
  pub span : SpanWithin v.span
  pub value_span : SpanWithin v.value_span
  pub value : PartWithin line v.value
  pub unit : OptTextWithin line v.unit

unfoldable pub opt_quantity_in : List ℕ → Option QuantityView → Option rules.Quantity
opt_quantity_in line None = None
opt_quantity_in line (Some v) = Some (quantity_in line v)

unfoldable pub OptQuantityWithin : List ℕ → Option QuantityView → Type 0
OptQuantityWithin line None = Unit
OptQuantityWithin line (Some v) = QuantityWithin line v

-- ---- the contents that a view holds, as they stand in the line, still escaped

abbrev pub raw_part : List ℕ → Part → List (List ℕ)
raw_part line p = part_of line p ∷ []

abbrev pub raw_text : List ℕ → TextView → List (List ℕ)
raw_text line v = part_of line v.content ∷ []

abbrev pub raw_opt_text : List ℕ → Option TextView → List (List ℕ)
raw_opt_text line None = []
raw_opt_text line (Some v) = raw_text line v

abbrev pub raw_quantity : List ℕ → QuantityView → List (List ℕ)
raw_quantity line v = part_of line v.value ∷ raw_opt_text line v.unit

abbrev pub raw_opt_quantity : List ℕ → Option QuantityView → List (List ℕ)
raw_opt_quantity line None = []
raw_opt_quantity line (Some v) = raw_quantity line v
