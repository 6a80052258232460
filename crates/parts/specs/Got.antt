-- What the readers answer: the rules' reading of the fields that are left.
use Rattle.std.specs.Prelude.{◌≡◌, ℕ, ◌≤◌, List, [], ◌∷◌, Option, None, Some}
use Rattle.rules.specs.Read.{Fields, Reader, give, opt, read_number, read_span, read_content, read_text, read_quantity}
use Rattle.sheet.specs.Lines.{fields_from}
use Rattle.parts.specs.declared.Span.{Span}
use Rattle.parts.specs.declared.TextView.{TextView}
use Rattle.parts.specs.declared.Part.{Part}
use Rattle.parts.specs.declared.QuantityView.{QuantityView}
use Rattle.parts.specs.declared.Dash.{Dash}
use Rattle.parts.specs.declared.Dash.TheVariants as dash
use Rattle.parts.specs.Views.{content_in, raw_part, raw_text, raw_opt_text, raw_quantity, raw_opt_quantity, PartWithin, span_in, SpanWithin, text_in, TextWithin, opt_text_in, OptTextWithin, quantity_in, QuantityWithin, opt_quantity_in, OptQuantityWithin}

-- a view that was read and where the next field starts, or none: what the rules' reader has then read, and the fields that are left
module _ {View A : Type 0} (means : View → A) (line : List ℕ) where
  unfoldable pub got_as : Option (View × ℕ) → Option (A × Fields)
  got_as None = None
  got_as (Some p) = Some (means p.0, fields_from line p.1)

module _ {View : Type 0} (Good : View → Type 0) where
  unfoldable pub IfGot : Option (View × ℕ) → Type 0
  IfGot None = Unit
  IfGot (Some p) = Good p.0

-- of the fields fs, those before gs were passed, and cs are some of them, in their order
pub data Among : Fields → Fields → Fields → Type 0 where
  among_end : {fs : Fields} → Among [] fs fs
  among_past : {cs fs gs : Fields} {f : List ℕ} → Among cs fs gs → Among cs (f ∷ fs) gs
  among_one : {cs fs gs : Fields} {f : List ℕ} → Among cs fs gs → Among (f ∷ cs) (f ∷ fs) gs

-- the contents that the view holds, still escaped, are whole fields of those that were passed
module _ {View : Type 0} (raw : View → Fields) (line : List ℕ) (at : ℕ) where
  unfoldable pub IfWhole : Option (View × ℕ) → Type 0
  IfWhole None = Unit
  IfWhole (Some p) = Among (raw p.0) (fields_from line at) (fields_from line p.1)

-- o is what the reader `read` of the rules reads from the field on that starts at `at`
pub record ReadAt {View A : Type 0} (means : View → A) (Good : View → Type 0) (raw : View → Fields) (read : Reader A) (line : List ℕ) (at : ℕ) (o : Option (View × ℕ)) : Type 0 where
  pub is : got_as means line o ≡ read (fields_from line at)
  pub good : IfGot Good o
  pub whole : IfWhole raw line at o

-- an opt part of nothing
unfoldable pub dash_as : List ℕ → ℕ → Dash → Option (Option (Unit {0}) × Fields)
dash_as line at (dash.Absent n) = Some (None, fields_from line n)
dash_as line at dash.Present = Some (Some tt, fields_from line at)
dash_as line at dash.Ill = None

abbrev pub DashAt : List ℕ → ℕ → Dash → Type 0
DashAt line at r = dash_as line at r ≡ opt (give tt) (fields_from line at)

-- of what holds no content
abbrev pub no_contents : {View : Type 0} → View → Fields
no_contents v = []

-- of what has no bounds
abbrev pub Anything : {View : Type 0} → View → Type 0
Anything v = Unit

-- what holds no content and has no bounds, as a word of a table
abbrev pub BareRead : {View A : Type 0} → (View → A) → Reader A → List ℕ → ℕ → Option (View × ℕ) → Type 0
BareRead means read line at r = ReadAt means Anything no_contents read line at r

-- a view that is what it stands for
abbrev pub itself : {A : Type 0} → A → A
itself a = a

abbrev pub NumberRead : List ℕ → ℕ → Option (ℕ × ℕ) → Type 0
NumberRead line at r = ReadAt (λ (n : ℕ). n) (λ (n : ℕ). n ≤ 65535) no_contents read_number line at r

abbrev pub SpanRead : List ℕ → ℕ → Option (Span × ℕ) → Type 0
SpanRead line at r = ReadAt span_in SpanWithin no_contents read_span line at r

abbrev pub ContentRead : List ℕ → ℕ → Option (Part × ℕ) → Type 0
ContentRead line at r = ReadAt (content_in line) (PartWithin line) (raw_part line) read_content line at r

abbrev pub TextRead : List ℕ → ℕ → Option (TextView × ℕ) → Type 0
TextRead line at r = ReadAt (text_in line) (TextWithin line) (raw_text line) read_text line at r

abbrev pub OptTextRead : List ℕ → ℕ → Option (Option TextView × ℕ) → Type 0
OptTextRead line at r = ReadAt (opt_text_in line) (OptTextWithin line) (raw_opt_text line) (opt read_text) line at r

abbrev pub QuantityRead : List ℕ → ℕ → Option (QuantityView × ℕ) → Type 0
QuantityRead line at r = ReadAt (quantity_in line) (QuantityWithin line) (raw_quantity line) read_quantity line at r

abbrev pub OptQuantityRead : List ℕ → ℕ → Option (Option QuantityView × ℕ) → Type 0
OptQuantityRead line at r = ReadAt (opt_quantity_in line) (OptQuantityWithin line) (raw_opt_quantity line) (opt read_quantity) line at r
