-- What the pass asks for, and what it has left.
use Prim.Native.Nat.{ℕ, ◌≤◌}
use mathlib.Core.Path.{◌≡◌}
use mathlib.Core.List.{List}
use Rattle.std.specs.Prelude.{Option, Some, Result, Ok}
use native.Mathlib.Omega.{arith}
use lib.ListN.{length}
use Rattle.rules.specs.Event.{Event}
use Rattle.rules.specs.Input.{Input, input_of, context_of}
use Rattle.rules.specs.Answer.{words_needed}
use Rattle.rules.proofs.Agreed.{own_context}
use Rattle.refusals.specs.declared.Refusal.{Refusal}
use Rattle.inputs.specs.Inputs.{GoodInputs}
use Rattle.inputs.proofs.Answers.{good_short, good_words}
use Rattle.model.specs.declared.Held.{Held}
use Rattle.pass.specs.Walks.{Running, RanRecipe, RanBy, RanAs}
use Rattle.model.specs.declared.layout.TheConstants.{STATE_WORDS}

pub run_ready : {i : Input} {words bytes : ℕ} → GoodInputs i words bytes → (length i.sheet ≤ 65536) × (STATE_WORDS ≤ words)
unfolding words_needed
run_ready g = (good_short g, omega (arith, good_words g))

-- where there is a recipe: what holds after the last line
pub recipe_running : {text units : List ℕ} {flags : ℕ} {sheet : List ℕ} {es : List Event} {w₀ w : List ℕ} {r : Result (Option Held) Refusal} {h : Held}
    → RanAs text units flags sheet es w₀ w r → r ≡ Ok (Some h) → Running sheet w h (length sheet)
unfolding RanBy
recipe_running {text} {units} {flags} {sheet} {es} {w = w} {h = h} p q =
    let i = input_of sheet text units flags in
    let x : RanRecipe (context_of i) sheet es w h = rw q at (p.is.at (context_of i) (own_context i)) in
    record { kept = x.kept; counted = x.counted }
