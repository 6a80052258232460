-- What the lines of the sheet, one after the other, and the end of the pass leave in work memory.
use Rattle.std.specs.Prelude.{ℕ, ◌+◌, ◌≤◌, ◌≡◌, Bool, true, false, List, [], ltb, length, Option, None, Some, Result, Ok, Err, is_err}
use Rattle.std.proofs.Math.Seq.{slice}
use Rattle.rules.specs.Input.{Context, Agrees, TextAgrees}
use Rattle.rules.specs.Event.{Event}
use Rattle.rules.specs.Finding.{Finding}
use Rattle.rules.specs.State.{State, first_state, Step, going, refused, recipe, no_recipe, refusal}
use Rattle.rules.specs.Pass as rules
use Rattle.rules.specs.Pass.{is_error_event, walk, ended, finish, parse_events}
use Rattle.refusals.specs.Told.{number_of}
use Rattle.refusals.specs.declared.Reason.{Reason}
use Rattle.refusals.specs.declared.Refusal.{Refusal}
use Rattle.events.specs.Views.{between_in, inside_in, event_in, EventWithin}
use Rattle.events.specs.declared.Between.{Between}
use Rattle.events.specs.declared.Inside.{Inside}
use Rattle.events.specs.declared.EventView.{EventView}
use Rattle.known_events.specs.Fields.{EventFields}
use Rattle.model.specs.Blank.{blank, blank_step, blank_walk}
use Rattle.model.specs.Memory.{state_in}
use Rattle.model.specs.declared.Held.{Held}
use Rattle.model.specs.Writes.{Writes}
use Rattle.blocks.specs.Lined.{step_in, SoundStep, FitStep, Went}
use Rattle.component_lines.specs.Lines.{LineHere, Kept}

-- ---- what every line is given

-- v is the view of a line of the sheet
pub record EventHere (sheet line : List ℕ) (at end : ℕ) (v : EventView) : Type 0 where
  pub part : line ≡ slice at end sheet
  pub here : LineHere sheet at end (event_in line v)
  pub within : EventWithin line v
  pub fields : EventFields line v

-- no more blocks in the section than there are, no more steps than blocks, and at most n lines that count for 3
abbrev pub Counted : ℕ → State → Type 0
Counted n st =
    (length st.place.section.content ≤ st.kept.blocks)
    × (st.place.step_counter ≤ length st.place.section.content + 1)
    × (length st.metadata.old ≤ n)

-- what holds before a line at n, and after it
pub record Running (sheet w : List ℕ) (h : Held) (n : ℕ) : Type 0 where
  pub kept : Kept sheet w h
  pub counted : Counted n (state_in sheet w h)

-- ---- a line

-- f is what the rules make of a state
pub record LineDone (f : State → Step) (sheet w₀ : List ℕ) (h₀ : Held) (w : List ℕ) (r : Result Held Reason) : Type 0 where
  pub is : step_in sheet w r ≡ blank_step (f (state_in sheet w₀ h₀))
  pub sound : SoundStep w r
  pub fit : FitStep sheet w r
  pub writes : Writes w₀ w (is_err r)

-- a line in a step, a line in any block, a line between blocks, any line; in every context that agrees with what is lent: what
-- its text is does not matter, nor its units between blocks
pub record InStep (units : List ℕ) (flags : ℕ) (sheet line : List ℕ) (e : Inside) (w₀ : List ℕ) (h₀ : Held) (w : List ℕ) (r : Result Held Reason) : Type 0 where
  pub at : (cx : Context) → Agrees units flags cx → LineDone (rules.in_step_block cx (inside_in line e) []) sheet w₀ h₀ w r

unfoldable pub inside_now : Context → List ℕ → Inside → State → Step
inside_now cx line e st = rules.on_inside cx (inside_in line e) st.place.block st

pub record InsideDone (units : List ℕ) (flags : ℕ) (sheet line : List ℕ) (e : Inside) (w₀ : List ℕ) (h₀ : Held) (w : List ℕ) (r : Result Held Reason) : Type 0 where
  pub at : (cx : Context) → Agrees units flags cx → LineDone (inside_now cx line e) sheet w₀ h₀ w r

pub record BetweenDone (flags : ℕ) (line : List ℕ) (b : Between) (w₀ : List ℕ) (h₀ : Held) (w : List ℕ) (h : Held) : Type 0 where
  pub at : (cx : Context) → cx.flags ≡ flags → Went (rules.on_between cx (between_in line b)) w₀ h₀ w h

pub record EventDone (units : List ℕ) (flags : ℕ) (sheet line : List ℕ) (v : EventView) (w₀ : List ℕ) (h₀ : Held) (w : List ℕ) (r : Result Held Reason) : Type 0 where
  pub at : (cx : Context) → Agrees units flags cx → LineDone (rules.on_event cx (event_in line v)) sheet w₀ h₀ w r

-- whether a view is of an `error` line
pub record ErrorView (v : EventView) (r : Bool) : Type 0 where
  pub is : (line : List ℕ) → r ≡ is_error_event (event_in line v)

-- ---- a line and the limits after it (`step` of the rules)

-- what it leaves: the small state where the pass goes on, none after an `error` line, or why it is refused
abbrev pub left_if : Held → Result Bool Reason → Result (Option Held) Reason
left_if h (Ok true) = Ok (Some h)
left_if h (Ok false) = Ok None
left_if h (Err r) = Err r

module _ (units : List ℕ) (flags : ℕ) (sheet line : List ℕ) (end : ℕ) (v : EventView) (w₀ : List ℕ) (h₀ : Held) (w : List ℕ) where
  -- the pass goes on
  pub record WentOn (h : Held) : Type 0 where
    pub is : (cx : Context) → Agrees units flags cx → (number : ℕ) → blank_walk (rules.step cx number (event_in line v) (going (state_in sheet w₀ h₀))) ≡ going (state_in sheet w h)
    pub running : Running sheet w h (end + 1)

  unfoldable pub WalkedAs : Result (Option Held) Reason → Type 0
  WalkedAs (Ok (Some h)) = WentOn h
  WalkedAs (Ok None) = is_error_event (event_in line v) ≡ true
  WalkedAs (Err r) = (cx : Context) → Agrees units flags cx → (number : ℕ) → blank_walk (rules.step cx number (event_in line v) (going (state_in sheet w₀ h₀))) ≡ refused (number_of r) number

-- 11 to 16 are told before anything is written. 17 is told of a line that is stored: what the words of the state then hold is the
-- program's choice
abbrev pub is_told_first : Result (Option Held) Reason → Bool
is_told_first (Ok o) = false
is_told_first (Err r) = ltb (number_of r) 17

pub record StepDone (units : List ℕ) (flags : ℕ) (sheet line : List ℕ) (end : ℕ) (v : EventView) (w₀ : List ℕ) (h₀ : Held) (w : List ℕ) (r : Result (Option Held) Reason) : Type 0 where
  pub is : WalkedAs units flags sheet line end v w₀ h₀ w r
  pub writes : Writes w₀ w (is_told_first r)

-- ---- the end

unfoldable pub EndedAs : Held → Result (Option Held) Refusal → Type 0
EndedAs h (Ok (Some k)) = (k ≡ h) × ((sheet w : List ℕ) (st : State) → state_in sheet w h ≡ blank st → finish (going st) ≡ recipe (ended st))
EndedAs h (Ok None) = ⊥
EndedAs h (Err f) = (sheet w : List ℕ) (st : State) → state_in sheet w h ≡ blank st → finish (going st) ≡ refusal (number_of f.reason) f.line

pub record Finished (h : Held) (r : Result (Option Held) Refusal) : Type 0 where
  pub is : EndedAs h r

-- ---- the whole pass

-- a recipe: the rules' state before the end, of which work memory holds what it keeps
pub record RanRecipe (cx : Context) (sheet : List ℕ) (es : List Event) (w : List ℕ) (h : Held) : Type 0 where
  pub state : State
  pub walked : walk cx 1 (going first_state) es ≡ going state
  pub is : parse_events cx es ≡ recipe (ended state)
  pub memory : state_in sheet w h ≡ blank state
  pub kept : Kept sheet w h
  pub counted : Counted (length sheet) (state_in sheet w h)

-- no recipe: an `error` line
pub record RanFailed (cx : Context) (es : List Event) : Type 0 where
  pub findings : List Finding
  pub is : parse_events cx es ≡ no_recipe findings

unfoldable pub RanBy : Context → List ℕ → List Event → List ℕ → Result (Option Held) Refusal → Type 0
RanBy cx sheet es w (Ok (Some h)) = RanRecipe cx sheet es w h
RanBy cx sheet es w (Ok None) = RanFailed cx es
RanBy cx sheet es w (Err f) = parse_events cx es ≡ refusal (number_of f.reason) f.line

-- in every context that agrees with what is lent; words past those of the state stay, whatever is answered
pub record Ran (text units : List ℕ) (flags : ℕ) (sheet : List ℕ) (es : List Event) (w₀ w : List ℕ) (r : Result (Option Held) Refusal) : Type 0 where
  pub at : (cx : Context) → TextAgrees text units flags cx → RanBy cx sheet es w r
  pub writes : Writes w₀ w false

pub record RanAs (text units : List ℕ) (flags : ℕ) (sheet : List ℕ) (es : List Event) (w₀ w : List ℕ) (r : Result (Option Held) Refusal) : Type 0 where
  pub is : Ran text units flags sheet es w₀ w r
  pub long : length w ≡ length w₀
