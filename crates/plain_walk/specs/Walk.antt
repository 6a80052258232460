-- What is known of work memory when the plain form is written, and what is written.
use Rattle.std.specs.Prelude.{ℕ, ◌-◌, ◌≤◌, ◌≡◌, List, take, Result, Ok, Err}
use Rattle.rules.specs.Input.{Context}
use Rattle.rules.specs.State.{State, first_state, going}
use Rattle.rules.specs.Pass.{walk}
use Rattle.rules.specs.Plain.{Traced, trace_from, plain_events, sheet_of}
use Rattle.rules.specs.Answer.{Answer, declined, unless_faulty, events_or, read_sheet}
use Rattle.refusals.specs.Told.{number_of}
use Rattle.refusals.specs.declared.Refusal.{Refusal}
use Rattle.output.specs.Put.{Put}
use Rattle.model.specs.Blank.{blank}
use Rattle.model.specs.Memory.{state_in, Sound}
use Rattle.model.specs.Fits.{AllFit}
use Rattle.model.specs.declared.Held.{Held}

-- work memory holds what it keeps of the state `final`
pub record Final (sheet w : List ℕ) (h : Held) (final : State) : Type 0 where
  pub memory : state_in sheet w h ≡ blank final
  pub sound : Sound w h
  pub fit : AllFit sheet w h
  pub ingredients : h.counts.ingredients ≤ 512
  pub cookware : h.counts.cookware ≤ 256

-- in a context the pass accepted the sheet, and work memory is as it left it
pub record Left (cx : Context) (text sheet w : List ℕ) (h : Held) : Type 0 where
  pub final : State
  pub walked : walk cx 1 (going first_state) (events_or (read_sheet text sheet)) ≡ going final
  pub memory : Final sheet w h final

-- in some context of the text and the flags that are lent
pub record PassDone (text : List ℕ) (flags : ℕ) (sheet w : List ℕ) (h : Held) : Type 0 where
  pub context : Context
  pub same_text : context.text ≡ text
  pub same_flags : context.flags ≡ flags
  pub left : Left context text sheet w h

-- ---- the form

-- the lines of the sheet, each with the state before it
abbrev pub trace_of : Context → List ℕ → List ℕ → List Traced
trace_of cx text sheet = trace_from cx 1 (going first_state) (events_or (read_sheet text sheet))

-- the form of the lines before the one of this number, at the front of a buffer that held o₀, as far as it goes
pub record FormFront (cx : Context) (text sheet : List ℕ) (line : ℕ) (o₀ o : List ℕ) : Type 0 where
  pub count : ℕ
  pub put : Put (sheet_of (plain_events cx (take (line - 1) (trace_of cx text sheet)))) o₀ 0 o count

-- the first fault, its number and line, and the form of the lines before it; or no fault, and the form, which fits or does not
unfoldable pub FormedAs : Context → List ℕ → List ℕ → List ℕ → List ℕ → Result ℕ Refusal → Type 0
FormedAs cx text sheet o₀ o (Err f) =
    ((a : Answer) → unless_faulty cx a (trace_of cx text sheet) ≡ declined (number_of f.reason) f.line)
    × FormFront cx text sheet f.line o₀ o
FormedAs cx text sheet o₀ o (Ok r) =
    ((a : Answer) → unless_faulty cx a (trace_of cx text sheet) ≡ a)
    × Put (sheet_of (plain_events cx (trace_of cx text sheet))) o₀ 0 o r

-- in every context of the text and the flags that are lent whose pass has left w and h; its units do not matter
pub record FormWritten (text : List ℕ) (flags : ℕ) (sheet w : List ℕ) (h : Held) (o₀ o : List ℕ) (r : Result ℕ Refusal) : Type 0 where
  pub is : (cx : Context) → cx.text ≡ text → cx.flags ≡ flags → Left cx text sheet w h → FormedAs cx text sheet o₀ o r
