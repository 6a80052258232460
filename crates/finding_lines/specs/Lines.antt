-- What the writers of findings leave in the output.
use Rattle.std.specs.Prelude.{ℕ, Bool, true, false, List, [], ◌∷◌, ◌++◌}
use Rattle.rules.specs.Basic.{pick, codes, comma, join_by, each}
use Rattle.rules.specs.Words as words
use Rattle.rules.specs.Event.{Span, Event, between, inside, parser_event}
use Rattle.rules.specs.Finding.{parsed}
use Rattle.rules.specs.Page.{table_lines, span_word, finding_line}
use Rattle.rules.specs.Answer.{events_or, read_sheet}
use Rattle.output.specs.Put.{Put}
use Rattle.events.specs.declared.EventView.{EventView}
use Rattle.events.specs.Views.{event_in}
use Rattle.model.specs.Rows.{spans_in, finding_of}
use Rattle.model.specs.Memory.{state_in}
use Rattle.model.specs.declared.Noted.{Noted}
use Rattle.model.specs.declared.Held.{Held}

-- ---- the fields of a finding's line

-- the spans of a finding
unfoldable pub spans_field : List Span → List ℕ
spans_field ss = join_by comma (each span_word ss)

unfoldable pub noted_spans : Noted → List Span
noted_spans x = spans_in x.spans (record { start = x.start; end = x.end }) (record { start = x.start2; end = x.end2 })

-- `i` or `-`
unfoldable pub flag_field : Bool → List ℕ
flag_field implicit = pick implicit (codes "i") (codes "-")

-- ---- lines. An index is not used

pub record ParsePut (s : words.Severity) (number : ℕ) (o₀ : List ℕ) (at : ℕ) (o : List ℕ) (r : ℕ) : Type 0 where
  pub is : (k : ℕ) → Put (finding_line k (parsed s number)) o₀ at o r

pub record FindingPut (x : Noted) (o₀ : List ℕ) (at : ℕ) (o : List ℕ) (r : ℕ) : Type 0 where
  pub is : (k : ℕ) → Put (finding_line k (finding_of x)) o₀ at o r

-- the findings of work memory
pub record FindingsPut (w : List ℕ) (h : Held) (o₀ : List ℕ) (at : ℕ) (o : List ℕ) (r : ℕ) : Type 0 where
  pub is : (sheet : List ℕ) → Put (table_lines finding_line (state_in sheet w h).findings) o₀ at o r

-- ---- 3, old metadata

-- what stands before its spans, and after them
unfoldable pub old_open : List ℕ
old_open = codes "diag\tW\t3\t"

unfoldable pub old_close : List ℕ
old_close = codes "\t-\n"

-- a span of it: a comma stands before each but the first
unfoldable pub span_piece : Bool → Span → List ℕ
span_piece true s = span_word s
span_piece false s = comma ∷ span_word s

-- ---- the findings of the parser

-- the line that an event leaves on the page of a failed recipe
unfoldable pub parsed_line : Event → List ℕ
parsed_line (between b) = []
parsed_line (inside i) = []
parsed_line (parser_event s n) = finding_line 0 (parsed s n)

-- the lines of some events
unfoldable pub parsed_lines : List Event → List ℕ
parsed_lines [] = []
parsed_lines (e ∷ es) = parsed_line e ++ parsed_lines es

pub record EventPut (v : EventView) (o₀ : List ℕ) (at : ℕ) (o : List ℕ) (r : ℕ) : Type 0 where
  pub is : (line : List ℕ) → Put (parsed_line (event_in line v)) o₀ at o r

-- those of a whole sheet
pub record ParsedPut (text bytes o₀ : List ℕ) (at : ℕ) (o : List ℕ) (r : ℕ) : Type 0 where
  pub is : Put (parsed_lines (events_or (read_sheet text bytes))) o₀ at o r
