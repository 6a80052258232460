-- What is read of work memory for the rules' searches.
use Rattle.std.specs.Prelude.{ℕ, List, Bool, Option}
use Rattle.rules.specs.Checks.{step_indices}
use Rattle.model.specs.Searches.{TargetFound}
use Rattle.model.specs.Memory.{state_in}
use Rattle.model.specs.declared.Held.{Held}

-- r is the step of the current section that an intermediate reference means
pub record StepTarget (relative : Bool) (value : ℕ) (w : List ℕ) (h : Held) (r : Option ℕ) : Type 0 where
  pub is : (sheet : List ℕ) → TargetFound relative value (step_indices (state_in sheet w h).place.section.content) r
