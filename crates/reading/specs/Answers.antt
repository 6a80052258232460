-- What the readers of whole lines answer: the rules' reading.
use Rattle.std.specs.Prelude.{ℕ, ◌+◌, Bool, true, false, ◌≡◌, List, [], ◌∷◌, eqb, leb, length, Option, None, Some, Result}
use Rattle.rules.specs.Basic.{tab, pick, on_some, word_in}
use Rattle.rules.specs.Utf8.{is_utf8}
use Rattle.rules.specs.Sheet.{fields_of}
use Rattle.rules.specs.Words.{event_words}
use Rattle.rules.specs.Event.{Event}
use Rattle.rules.specs.Read.{read_event, first_read, parse_line}
use Rattle.sheet.specs.Lines.{field_at}
use Rattle.sheet.specs.Words.{event_word_in}
use Rattle.sheet.specs.declared.EventWord.{EventWord}
use Rattle.parts.specs.Got.{Among}
use Rattle.events.specs.Views.{event_in, EventWithin, raw_event}
use Rattle.rules.specs.Answer.{events, read_line, read_sheet, fault_of, number_if}
use Rattle.refusals.specs.declared.Reason.{Reason}
use Rattle.refusals.specs.declared.Refusal.{Refusal}
use Rattle.refusals.specs.Told.{number_told, told}
use Rattle.events.specs.declared.EventView.{EventView}

-- s starts with the word and a tab
unfoldable pub leads_with : List ℕ → List ℕ → Bool
leads_with [] [] = false
leads_with [] (c ∷ s) = eqb c tab
leads_with (x ∷ w) [] = false
leads_with (x ∷ w) (c ∷ s) = pick (eqb c x) (leads_with w s) false

-- a line's first word, if it is one of an event's, and where the field after it starts
pub record WordRead (line : List ℕ) (r : Option (EventWord × ℕ)) : Type 0 where
  pub word : on_some (λ (p : EventWord × ℕ). event_word_in p.0) r ≡ word_in (field_at line 0) event_words
  pub next : (w : EventWord) (n : ℕ) → r ≡ Some (w, n) → n ≡ length (field_at line 0) + 1

-- the event that was read, if one was
unfoldable pub event_as : List ℕ → Option EventView → Option Event
event_as line (Some v) = Some (event_in line v)
event_as line None = None

-- the number that such an answer stands for: 8 where no event was read
unfoldable pub event_number : Option EventView → Option ℕ
event_number (Some v) = None
event_number None = Some 8

-- the number of a line's refusal, if it is 8
unfoldable pub eight_of : Option (ℕ × ℕ) → Option ℕ
eight_of None = None
eight_of (Some p) = number_if 8 (eqb p.0 8)

-- it is 8 exactly where `read_line` refuses the line by it, whatever the text is and wherever in the sheet the line stands
pub record EightAs (line : List ℕ) (r : Option EventView) : Type 0 where
  pub is : (text : List ℕ) (n : ℕ) → event_number r ≡ eight_of (fault_of (read_line text (length text) n (parse_line line) (events [])))

unfoldable pub IfEvent : List ℕ → Option EventView → Type 0
IfEvent line (Some v) = EventWithin line v
IfEvent line None = Unit

-- the contents that the view holds are whole fields of the line, in their order
unfoldable pub IfWhole : List ℕ → Option EventView → Type 0
IfWhole line (Some v) = Among (raw_event line v) (fields_of line) []
IfWhole line None = Unit

-- what a reader of events got, in a line of so many bytes, if the line ends there
unfoldable pub ended_as : ℕ → Option (EventView × ℕ) → Option EventView
ended_as l (Some (v, m)) = pick (leb m l) None (Some v)
ended_as l None = None

-- what `event_in` answers
pub record EventOf (line : List ℕ) (r : Option EventView) : Type 0 where
  pub is : event_as line r ≡ first_read (read_event (fields_of line))
  pub number : is_utf8 line ≡ true → EightAs line r
  pub within : IfEvent line r
  pub whole : IfWhole line r

-- what `event_at` answers
pub record LineOf (line : List ℕ) (r : Option EventView) : Type 0 where
  pub is : event_as line r ≡ parse_line line
  pub number : EightAs line r
  pub within : IfEvent line r
  pub whole : IfWhole line r

-- the refusal of a line, with nothing after it
pub record LineChecked (text : List ℕ) (number : ℕ) (line : List ℕ) (r : Result (Unit {0}) Reason) : Type 0 where
  pub is : on_some (λ (n : ℕ). (n, number)) (number_told r) ≡ fault_of (read_line text (length text) number (parse_line line) (events []))

-- the refusal of a whole sheet
pub record SheetChecked (text bytes : List ℕ) (r : Result (Unit {0}) Refusal) : Type 0 where
  pub is : told r ≡ fault_of (read_sheet text bytes)
