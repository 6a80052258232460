-- The reading of a line's fields into its event (document 01, "The event sheet").
use Rattle.std.specs.Prelude.{ℕ, List, [], ◌∷◌, Bool, false, eqb, Option, None, Some}
use Rattle.rules.specs.Basic.{pick, codes, eq_list, minus, is_empty, on_some, word_in}
use Rattle.rules.specs.Utf8.{is_utf8, chars}
use Rattle.rules.specs.Sheet.{number_of, signed_of, Signed, fields_of, unescape}
use Rattle.rules.specs.Words.{Severity, block_kinds, value_kinds, locks, references, targets, severe, mild, EventWord, event_words, meta_word, section_word, start_word, end_word, text_word, ingredient_word, cookware_word, timer_word, error_word, warning_word}
use Rattle.rules.specs.Event.{Span, Text, Quantity, Modifiers, Component, Intermediate, Event, meta_event, section_event, start_event, end_event, text_event, component_event, ingredient_event, cookware_event, timer_event, between, inside, parser_event}

-- ---- a reader takes fields from the left, or finds the line ill-formed

abbrev pub Fields : Type 0
Fields = List (List ℕ)

abbrev pub Reader : Type 0 → Type 0
Reader A = Fields → Option (A × Fields)

module _ {A B : Type 0} (f : A → Reader B) where
  unfoldable pub go_on : Option (A × Fields) → Option (B × Fields)
  go_on None = None
  go_on (Some r) = f r.0 r.1

infixl 10 ◌>>=◌
module _ {A : Type 0} where
  unfoldable pub ◌>>=◌ : {B : Type 0} → Reader A → (A → Reader B) → Reader B
  ◌>>=◌ r f fs = go_on f (r fs)

  unfoldable pub give : A → Reader A
  give a fs = Some (a, fs)

  -- what a field says, if it says it
  unfoldable pub saying : Option A → Reader A
  saying None fs = None
  saying (Some a) fs = Some (a, fs)

  unfoldable pub got_one : Option (A × Fields) → Option (Option A × Fields)
  got_one None = None
  got_one (Some r) = Some (Some r.0, r.1)

  -- "*opt* is `-` or the thing itself."
  unfoldable pub opt : Reader A → Reader (Option A)
  opt r [] = None
  opt r (f ∷ fs) = pick (eq_list f (minus ∷ [])) (Some (None, fs)) (got_one (r (f ∷ fs)))

unfoldable pub field : Reader (List ℕ)
field [] = None
field (f ∷ fs) = Some (f, fs)

unfoldable pub no_more : Reader (Unit {0})
no_more [] = Some (tt, [])
no_more (f ∷ fs) = None

-- ---- the parts of a line

unfoldable pub read_number : Reader ℕ
read_number = do
  f ← field
  saying (number_of f)

unfoldable pub read_span : Reader Span
read_span = do
  a ← read_number
  b ← read_number
  give (record { start = a; end = b })

-- a content is the code points of the unescaped field
unfoldable pub content_of : List ℕ → Option (List ℕ)
content_of f = on_some chars (unescape f)

unfoldable pub read_content : Reader (List ℕ)
read_content = do
  f ← field
  saying (content_of f)

unfoldable pub read_text : Reader Text
read_text = do
  s ← read_span
  c ← read_content
  give (record { span = s; content = c })

module _ {A : Type 0} (table : List (List ℕ × A)) where
  unfoldable pub word : Reader A
  word = do
    f ← field
    saying (word_in f table)

unfoldable pub read_quantity : Reader Quantity
read_quantity = do
  s ← read_span
  k ← word value_kinds
  vs ← read_span
  v ← read_content
  l ← word locks
  u ← opt read_text
  give (record { span = s; kind = k; value_span = vs; value = v; lock = l; unit = u })

-- "Modifiers: `.` or letters in the order `@&-?+`": whether the letter c comes next, and what follows it
unfoldable pub leads : ℕ → List ℕ → Bool
leads c [] = false
leads c (d ∷ s) = eqb d c

unfoldable pub past : ℕ → List ℕ → List ℕ
past c [] = []
past c (d ∷ s) = pick (eqb d c) s (d ∷ s)

unfoldable pub no_modifiers : Modifiers
no_modifiers = record { recipe = false; ref = false; hidden = false; opt = false; new = false }

unfoldable pub modifier_letters : List ℕ → Option Modifiers
modifier_letters s =
    let s1 = past 64 s in let s2 = past 38 s1 in let s3 = past 45 s2 in let s4 = past 63 s3 in
    pick (is_empty (past 43 s4))
    (Some (record { recipe = leads 64 s; ref = leads 38 s1; hidden = leads 45 s2; opt = leads 63 s3; new = leads 43 s4 }))
    None

unfoldable pub modifiers_of : List ℕ → Option Modifiers
modifiers_of [] = None
modifiers_of (c ∷ s) = pick (eq_list (c ∷ s) (codes ".")) (Some no_modifiers) (modifier_letters (c ∷ s))

unfoldable pub read_modifiers : Reader Modifiers
read_modifiers = do
  f ← field
  saying (modifiers_of f)

unfoldable pub read_component : Reader Component
read_component = do
  s ← read_span
  n ← read_text
  a ← opt read_text
  q ← opt read_quantity
  t ← opt read_text
  m ← read_modifiers
  ms ← read_span
  give (record { span = s; name = n; alias = a; quantity = q; note = t; modifiers = m; modifiers_span = ms })

unfoldable pub read_signed : Reader Signed
read_signed = do
  f ← field
  saying (signed_of f)

unfoldable pub read_intermediate : Reader Intermediate
read_intermediate = do
  r ← word references
  t ← word targets
  v ← read_signed
  s ← read_span
  give (record { relative = r; target = t; value = v; span = s })

-- ---- the events, after their words

unfoldable pub read_meta : Reader Event
read_meta = do
  k ← read_text
  v ← read_text
  give (between (meta_event k v))

unfoldable pub read_section : Reader Event
read_section = do
  n ← opt read_text
  give (between (section_event n))

unfoldable pub read_start : Reader Event
read_start = do
  k ← word block_kinds
  give (between (start_event k))

unfoldable pub read_end : Reader Event
read_end = do
  k ← word block_kinds
  give (inside (end_event k))

unfoldable pub read_text_line : Reader Event
read_text_line = do
  t ← read_text
  give (inside (text_event t))

unfoldable pub read_ingredient : Reader Event
read_ingredient = do
  c ← read_component
  i ← opt read_intermediate
  give (inside (component_event (ingredient_event c i)))

unfoldable pub read_cookware : Reader Event
read_cookware = do
  c ← read_component
  give (inside (component_event (cookware_event c)))

unfoldable pub read_timer : Reader Event
read_timer = do
  s ← read_span
  n ← opt read_text
  q ← opt read_quantity
  give (inside (component_event (timer_event s n q)))

unfoldable pub read_finding : Severity → Reader Event
read_finding s = do
  n ← read_number
  give (parser_event s n)

unfoldable pub read_after : EventWord → Reader Event
read_after meta_word = read_meta
read_after section_word = read_section
read_after start_word = read_start
read_after end_word = read_end
read_after text_word = read_text_line
read_after ingredient_word = read_ingredient
read_after cookware_word = read_cookware
read_after timer_word = read_timer
read_after error_word = read_finding severe
read_after warning_word = read_finding mild

unfoldable pub read_event : Reader Event
read_event = do
  w ← word event_words
  e ← read_after w
  u ← no_more
  give e

unfoldable pub first_read : Option (Event × Fields) → Option Event
first_read None = None
first_read (Some r) = Some r.0

-- the event of a line without its LF, or none where the line is ill-formed (8)
unfoldable pub parse_line : List ℕ → Option Event
parse_line line = pick (is_utf8 line) (first_read (read_event (fields_of line))) None
