-- What a line of the sheet leaves in work memory: the state that memory stands for is the rules' state after the line, blank
-- where memory keeps nothing.
use Rattle.std.specs.Prelude.{ℕ, ◌≡◌, List, [], Bool, false, is_err, length, Option, Result, Ok, Err}
use Rattle.rules.specs.Event as rules
use Rattle.rules.specs.Model.{Item}
use Rattle.rules.specs.State.{State, set_block, Step, next, stop}
use Rattle.rules.specs.Input.{Context}
use Rattle.rules.specs.Pass.{is_open, opened, on_section, push_items, in_step_block, in_text_block, component_in_text, in_text_mode}
use Rattle.parts.specs.Views.{span_in, opt_text_in}
use Rattle.parts.specs.declared.Span.{Span}
use Rattle.events.specs.Views.{component_event_in, inside_in}
use Rattle.sheet.specs.declared.BlockKind.{BlockKind}
use Rattle.sheet.specs.declared.BlockKind.TheVariants as block
use Rattle.events.specs.declared.ComponentEvent.{ComponentEvent}
use Rattle.events.specs.declared.Inside.{Inside}
use Rattle.model.specs.Blank.{blank, blank_step}
use Rattle.model.specs.Memory.{state_in, Sound}
use Rattle.model.specs.Fits.{AllFit}
use Rattle.model.specs.Writes.{Writes}
use Rattle.model.specs.declared.Open.{Open}
use Rattle.model.specs.declared.Open.TheVariants.{Step as StepBlock, Text as TextBlock}
use Rattle.model.specs.declared.Held.{Held}
use Rattle.refusals.specs.declared.Reason.{Reason}
use Rattle.refusals.specs.Told.{number_of}
use Rattle.parts.specs.declared.TextView.{TextView}
use Rattle.sheet.specs.Words.{block_in}

-- f is what the rules make of a state, over words that stay as they are
pub record Told (f : State → State) (h₀ h : Held) : Type 0 where
  pub is : (sheet w : List ℕ) → state_in sheet w h ≡ blank (f (state_in sheet w h₀))
  pub sound : (w : List ℕ) → Sound w h₀ → Sound w h

-- the same where the words may change: rows go on pointing into the sheet, and words past those of the state stay
pub record Went (f : State → State) (w₀ : List ℕ) (h₀ : Held) (w : List ℕ) (h : Held) : Type 0 where
  pub is : (sheet : List ℕ) → state_in sheet w h ≡ blank (f (state_in sheet w₀ h₀))
  pub sound : Sound w h
  pub fit : (sheet : List ℕ) → AllFit sheet w₀ h₀ → AllFit sheet w h
  pub writes : Writes w₀ w false

-- what a line leaves where the rules may refuse: the small state, or why it is refused; what the small state then is, is the
-- program's choice
abbrev pub left : Held → Result (Unit {0}) Reason → Result Held Reason
left h (Ok u) = Ok h
left h (Err r) = Err r

-- the same where the rules may refuse: then nothing is written
unfoldable pub step_in : List ℕ → List ℕ → Result Held Reason → Step
step_in sheet w (Ok h) = next (state_in sheet w h)
step_in sheet w (Err r) = stop (number_of r)

unfoldable pub SoundStep : List ℕ → Result Held Reason → Type 0
SoundStep w (Ok h) = Sound w h
SoundStep w (Err r) = Unit

unfoldable pub FitStep : List ℕ → List ℕ → Result Held Reason → Type 0
FitStep sheet w (Ok h) = AllFit sheet w h
FitStep sheet w (Err r) = Unit

pub record Stepped (f : State → Step) (w₀ : List ℕ) (h₀ : Held) (w : List ℕ) (r : Result Held Reason) : Type 0 where
  pub is : (sheet : List ℕ) → step_in sheet w r ≡ blank_step (f (state_in sheet w₀ h₀))
  pub sound : SoundStep w r
  pub fit : (sheet : List ℕ) → AllFit sheet w₀ h₀ → FitStep sheet w r
  pub writes : Writes w₀ w (is_err r)

-- ---- the lines

-- `start`
unfoldable pub start_block : BlockKind → State → State
start_block k st = set_block (opened st.modes.define (block_in k)) st

pub record OpenNow (h : Held) (r : Bool) : Type 0 where
  pub is : (sheet w : List ℕ) → r ≡ is_open (state_in sheet w h).place.block

pub record SectionDone (name : Option TextView) (h₀ h : Held) : Type 0 where
  pub at : (line : List ℕ) → Told (on_section (opt_text_in line name)) h₀ h

-- the n items of a step
pub record ItemsPushed (n : ℕ) (h₀ h : Held) : Type 0 where
  pub by : (new : List Item) → length new ≡ n → Told (push_items new []) h₀ h

pub record SpanOf (c : ComponentEvent) (s : Span) : Type 0 where
  pub is : (line : List ℕ) → span_in s ≡ rules.component_span (component_event_in line c)

-- a line in a text block, and in text mode over a recipe's text
pub record InTextBlock (e : Inside) (w₀ : List ℕ) (h₀ : Held) (w : List ℕ) (r : Result Held Reason) : Type 0 where
  pub at : (line : List ℕ) → Stepped (in_text_block (inside_in line e) []) w₀ h₀ w r

pub record InTextMode (e : Inside) (w₀ : List ℕ) (h₀ : Held) (w : List ℕ) (r : Result Held Reason) : Type 0 where
  pub at : (text line : List ℕ) → Stepped (in_text_mode text (inside_in line e) []) w₀ h₀ w r

-- the block that a `start` opens outside text mode
unfoldable pub kind_open : BlockKind → Open
kind_open block.Step = StepBlock
kind_open block.Text = TextBlock

-- `end` in a step
pub record StepEnded (k : BlockKind) (w₀ : List ℕ) (h₀ : Held) (w : List ℕ) (r : Result Held Reason) : Type 0 where
  pub at : (cx : Context) → Stepped (in_step_block cx (rules.end_event (block_in k)) []) w₀ h₀ w r

-- a component in text mode
pub record ComponentInText (c : ComponentEvent) (w₀ : List ℕ) (h₀ : Held) (w : List ℕ) (h : Held) : Type 0 where
  pub at : (text line : List ℕ) → Went (component_in_text text (rules.component_span (component_event_in line c)) []) w₀ h₀ w h
