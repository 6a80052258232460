-- What an `ingredient` or `cookware` line of a step leaves in work memory.
use Rattle.std.specs.Prelude.{ℕ, ◌≤◌, ◌≡◌, false, List, [], length, Some, Result, is_err}
use Rattle.std.proofs.Math.Seq.{slice}
use Rattle.rules.specs.Event.{Event}
use Rattle.rules.specs.Input.{Context, Agrees}
use Rattle.rules.specs.Read.{parse_line}
use Rattle.rules.specs.Model.{Kind}
use Rattle.rules.specs.State.{table_of, over_limits}
use Rattle.rules.specs.Pass.{on_component}
use Rattle.rules.specs.Reference.{DefinedWithoutRef}
use Rattle.events.specs.Views.{component_event_in}
use Rattle.events.specs.declared.ComponentEvent.{ComponentEvent}
use Rattle.model.specs.Blank.{blank_step}
use Rattle.model.specs.Memory.{state_in, Sound}
use Rattle.model.specs.Fits.{WholeLine, AllFit}
use Rattle.model.specs.declared.Held.{Held}
use Rattle.model.specs.Writes.{Writes}
use Rattle.blocks.specs.Lined.{step_in, SoundStep, FitStep}
use Rattle.refusals.specs.declared.Reason.{Reason}

-- the line of the sheet from at to end is e's
pub record LineHere (sheet : List ℕ) (at end : ℕ) (e : Event) : Type 0 where
  pub whole : WholeLine sheet at end
  pub short : length sheet ≤ 65536
  pub is : parse_line (slice at end sheet) ≡ Some e

-- what the pass keeps between lines
pub record Kept (sheet w : List ℕ) (h : Held) : Type 0 where
  pub sound : Sound w h
  pub fit : AllFit sheet w h
  pub definitions : (k : Kind) → DefinedWithoutRef (table_of k (state_in sheet w h))
  pub limits : over_limits (state_in sheet w h) ≡ false

-- a component's line in a step, in every context that agrees with what is lent
pub record ComponentDone (units : List ℕ) (flags : ℕ) (sheet line : List ℕ) (c : ComponentEvent) (w₀ : List ℕ) (h₀ : Held) (w : List ℕ) (r : Result Held Reason) : Type 0 where
  pub at : (cx : Context) → Agrees units flags cx → step_in sheet w r ≡ blank_step (on_component cx (component_event_in line c) [] (state_in sheet w₀ h₀))
  pub sound : SoundStep w r
  pub fit : FitStep sheet w r
  pub writes : Writes w₀ w (is_err r)
