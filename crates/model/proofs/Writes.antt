-- What writes in the windows of the state leaves the words past them.
use Prim.Native.Nat.{ℕ, ◌+◌, ◌≤◌}
use mathlib.Core.Path.{◌≡◌, refl, ap, ◌∙◌}
use mathlib.Core.List.{List}
use mathlib.Core.Bool.{Bool, false}
use lib.ListN.{length, drop}
use lib.Seq.{sets}
use Rattle.rules.proofs.Basics.{no_truth}
use Rattle.model.specs.Writes.{Writes}
use Rattle.model.proofs.Stores.{sets_above}
use Rattle.model.specs.declared.layout.TheConstants.{STATE_WORDS}

-- nothing is written
pub writes_none : {w : List ℕ} {b : Bool} → Writes w w b
writes_none = record { past = refl; stopped = λ e. refl }

-- one after the other
pub writes_on : {w₀ w₁ w₂ : List ℕ} → Writes w₀ w₁ false → Writes w₁ w₂ false → Writes w₀ w₂ false
writes_on a b = record { past = b.past ∙ a.past; stopped = λ e. no_truth e }

-- a run of stores below the end of the windows
pub writes_sets : {w₀ w : List ℕ} (at : ℕ) (vs : List ℕ) → at + length vs ≤ STATE_WORDS → w ≡ sets w₀ at vs → Writes w₀ w false
writes_sets {w₀} at vs h e = record { past = ap (drop STATE_WORDS) e ∙ sets_above STATE_WORDS w₀ at vs h; stopped = λ q. no_truth q }

-- of the words past those of the state alone
pub writes_past : {w₀ w : List ℕ} {b : Bool} → Writes w₀ w b → Writes w₀ w false
writes_past a = record { past = a.past; stopped = λ q. no_truth q }
