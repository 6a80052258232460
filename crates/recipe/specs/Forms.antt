-- What the parts of `plain_form` are given, and what they answer.
use Rattle.std.specs.Prelude.{ℕ, List, length}
use Rattle.rules.specs.Input.{Input, context_of}
use Rattle.rules.specs.State.{first_state, going}
use Rattle.rules.specs.Plain.{trace_from}
use Rattle.rules.specs.Answer.{Answer, bytes_needed, events_of, form_of}
use Rattle.inputs.specs.Inputs.{GoodInputs}
use Rattle.model.specs.declared.Held.{Held}
use Rattle.pass.specs.Walks.{RanRecipe}

-- inputs that nothing refuses, and work memory as the pass over them leaves it where there is a recipe
pub record RecipeGiven (i : Input) (w : List ℕ) (h : Held) : Type 0 where
  pub inputs : GoodInputs i (length w) bytes_needed
  pub ran : RanRecipe (context_of i) i.sheet (events_of i) w h

-- the answer where the pass over the sheet makes a recipe: 22, 23, 24, 20 or the form
unfoldable pub form_given : Input → ℕ → Answer
form_given i room = form_of i room (trace_from (context_of i) 1 (going first_state) (events_of i))
