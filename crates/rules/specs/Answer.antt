-- The whole: what `collect` and `plain_form` answer for any input and any lengths lent (document 01, "Numbers by place").
use Rattle.std.specs.Prelude.{ℕ, suc, ◌-◌, List, [], ◌∷◌, ◌++◌, Bool, false, ◌&&◌, ◌||◌, not, eqb, leb, ltb, length, replicate, Option, None, Some}
use Rattle.rules.specs.Basic.{pick, is_digit, is_empty, all}
use Rattle.rules.specs.Utf8.{is_utf8, is_inside}
use Rattle.rules.specs.Sheet.{Lines, last, more, lines, refused_line}
use Rattle.rules.specs.Event.{Span, Event, spans_of}
use Rattle.rules.specs.Read.{parse_line}
use Rattle.rules.specs.Units.{NamedUnit, read_units, name_twice}
use Rattle.rules.specs.Input.{Input, with_sheet, Context, context_of}
use Rattle.rules.specs.State.{first_state, going, Outcome, recipe, no_recipe, refusal}
use Rattle.rules.specs.Pass.{is_error_event, parse_events}
use Rattle.rules.specs.Page.{recipe_page, failed_page}
use Rattle.rules.specs.Plain.{Traced, trace_from, plain_events, plain_fault, sheet_of}

-- the bytes handed out, or a refusal's number and line
pub data Answer : Type 0 where
  answered : List ℕ → Answer
  declined : ℕ → ℕ → Answer

-- ---- "sheet, line by line: 8 ill-formed; 9 a 4,097th line; 10 span reversed, past the text, or inside a character"

pub data Reading : Type 0 where
  events : List Event → Reading
  unread : ℕ → ℕ → Reading

unfoldable pub with_event : Event → Reading → Reading
with_event e (events es) = events (e ∷ es)
with_event e (unread n l) = unread n l

module _ (text : List ℕ) (text_length : ℕ) where
  unfoldable pub is_good_span : Span → Bool
  is_good_span s =
      leb s.start s.end && leb s.end text_length && not (is_inside text s.start) && not (is_inside text s.end)

  unfoldable pub read_line : ℕ → Option Event → Reading → Reading
  read_line line None rest = unread 8 line
  read_line line (Some e) rest =
      pick (ltb 4096 line) (unread 9 line) (pick (all is_good_span (spans_of e)) (with_event e rest) (unread 10 line))

  -- what stands after the last LF, if anything, is a line that is not ended
  unfoldable pub read_from : ℕ → Lines → Reading
  read_from line (last l) = pick (is_empty l) (events []) (unread 8 line)
  read_from line (more l ls) = read_line line (parse_line l) (read_from (suc line) ls)

unfoldable pub read_sheet : List ℕ → List ℕ → Reading
read_sheet text sheet = read_from text (length text) 1 (lines sheet)

-- its refusal, if there is one: a number and a line
unfoldable pub fault_of : Reading → Option (ℕ × ℕ)
fault_of (events es) = None
fault_of (unread n l) = Some (n, l)

unfoldable pub events_or : Reading → List Event
events_or (events es) = es
events_or (unread n l) = []

-- the events of a sheet
abbrev pub events_of : Input → List Event
events_of i = events_or (read_sheet i.text i.sheet)

-- ---- the order of refusals: the rows above "plain form only" and "writing", with memory enough

-- the first of some, where there is one
unfoldable pub first_some : {A : Type 0} → List (Option A) → Option A
first_some [] = None
first_some (None ∷ os) = first_some os
first_some (Some a ∷ os) = Some a

unfoldable pub number_if : ℕ → Bool → Option ℕ
number_if n b = pick b (Some n) None

-- "5 unit line ill-formed or a 1,025th; 6 unit name twice"
unfoldable pub units_refused : Option (List NamedUnit) → Option ℕ
units_refused None = Some 5
units_refused (Some us) = number_if 6 (name_twice us)

-- what stands in the table before the flags: "1 sheet over 65,536 bytes; 2 text over 65,535; 3 units over 16,384", "4 text not
-- UTF-8", then 5 or 6
unfoldable pub before_flags : Input → Option ℕ
before_flags i =
    first_some
    (number_if 1 (ltb 65536 (length i.sheet)) ∷ number_if 2 (ltb 65535 (length i.text)) ∷ number_if 3 (ltb 16384 (length i.units))
    ∷ number_if 4 (not (is_utf8 i.text)) ∷ units_refused (read_units i.units) ∷ [])

-- a number that names no line
unfoldable pub in_no_line : Option ℕ → Option (ℕ × ℕ)
in_no_line None = None
in_no_line (Some n) = Some (n, 0)

-- "7 flags over 7", then the sheet, line by line
unfoldable pub from_flags : Input → Option (ℕ × ℕ)
from_flags i = first_some (in_no_line (number_if 7 (ltb 7 i.flags)) ∷ fault_of (read_sheet i.text i.sheet) ∷ [])

-- all that is refused before the pass; `fault` is what the list of a single page refuses, right before the flags
unfoldable pub before_pass : Option ℕ → Input → Option (ℕ × ℕ)
before_pass fault i = first_some (in_no_line (before_flags i) ∷ in_no_line fault ∷ from_flags i ∷ [])

unfoldable pub refused_or : Option (ℕ × ℕ) → Outcome → Outcome
refused_or None o = o
refused_or (Some p) o = refusal p.0 p.1

-- what a page with a list of its own begins with
unfoldable pub collection_with : Option ℕ → Input → Outcome
collection_with fault i = refused_or (before_pass fault i) (parse_events (context_of i) (events_of i))

-- what any other begins with: the recipe, none after an `error` line, or a refusal
unfoldable pub collection : Input → Outcome
collection i = collection_with None i

-- ---- lent memory: the lengths of the work memory, in words and in bytes, and of the output

pub record Lent : Type 0 where
  pub words : ℕ
  pub bytes : ℕ
  pub room : ℕ

-- "work memory shorter than the sizes in docs/, which the limits alone fix" (docs/MEMORY.md)
unfoldable pub words_needed : ℕ
words_needed = 45661

unfoldable pub bytes_needed : ℕ
bytes_needed = 65536

unfoldable pub is_short : Lent → Bool
is_short m = ltb m.words words_needed || ltb m.bytes bytes_needed

-- memory enough for any form, which has at most 65,536 bytes, and for the page of a small sheet
abbrev pub enough : Lent
enough = record { words = words_needed; bytes = bytes_needed; room = 65536 }

-- "20 answer longer than the space lent"
unfoldable pub hand_out : ℕ → List ℕ → Answer
hand_out room bytes = pick (leb (length bytes) room) (answered bytes) (declined 20 0)

unfoldable pub written : ℕ → Outcome → Answer
written room (recipe st) = hand_out room (recipe_page st)
written room (no_recipe fs) = hand_out room (failed_page fs)
written room (refusal n l) = declined n l

-- what `collect` answers
unfoldable pub collect_answer : Input → Lent → Answer
collect_answer i m = pick (is_short m) (declined 1 0) (written m.room (collection i))

-- ---- the plain form

-- "21 an `error` line": the first
unfoldable pub error_line : ℕ → List Event → ℕ
error_line line [] = 0
error_line line (e ∷ es) = pick (is_error_event e) line (error_line (suc line) es)

unfoldable pub gives17 : Outcome → Bool
gives17 (recipe st) = false
gives17 (no_recipe fs) = false
gives17 (refusal n l) = eqb n 17

module _ (i : Input) (room : ℕ) where
  -- "24 form over 65,536 bytes, or its collection gives 17"
  unfoldable pub form_answer : List ℕ → Answer
  form_answer form =
      pick (ltb 65536 (length form) || gives17 (collection (with_sheet form i))) (declined 24 0) (hand_out room form)

unfoldable pub fault_or : ℕ → Option ℕ → Answer → Answer
fault_or line (Some n) a = declined n line
fault_or line None a = a

-- "then by line 22 component in a components-mode step, 23 implicit reference not to the last non-REF of its name"
module _ (cx : Context) (whole : Answer) where
  unfoldable pub unless_faulty : List Traced → Answer
  unless_faulty [] = whole
  unless_faulty (t ∷ ts) = fault_or t.line (plain_fault cx t.state t.event) (unless_faulty ts)

module _ (i : Input) (room : ℕ) where
  unfoldable pub form_of : List Traced → Answer
  form_of ts = unless_faulty (context_of i) (form_answer i room (sheet_of (plain_events (context_of i) ts))) ts

  unfoldable pub plain_of : List Event → Outcome → Answer
  plain_of es (refusal n l) = declined n l
  plain_of es (no_recipe fs) = declined 21 (error_line 1 es)
  plain_of es (recipe st) = form_of (trace_from (context_of i) 1 (going first_state) es)

-- what `plain_form` answers
unfoldable pub plain_answer : Input → Lent → Answer
plain_answer i m = pick (is_short m) (declined 1 0) (plain_of i m.room (events_of i) (collection i))

-- ---- what is left in lent memory, and what the programs print

-- "Lent output and work memory are then zero; after success, work memory and all past the answer is zero."
unfoldable pub out_after : ℕ → Answer → List ℕ
out_after room (answered bytes) = bytes ++ replicate (room - length bytes) 0
out_after room (declined n l) = replicate room 0

unfoldable pub work_after : ℕ → List ℕ
work_after work = replicate work 0

unfoldable pub printed : Answer → List ℕ
printed (answered bytes) = bytes
printed (declined n l) = refused_line n l

-- "`flags` (one digit; other content is read as 8)"
unfoldable pub flags_of : List ℕ → ℕ
flags_of [] = 8
flags_of (c ∷ []) = pick (is_digit c) (c - 48) 8
flags_of (c ∷ d ∷ s) = 8
