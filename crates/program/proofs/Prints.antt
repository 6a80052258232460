-- What a program prints is the answer of the rules.
use Prim.Native.Nat.{ℕ}
use mathlib.Core.Path.{◌≡◌, ap, ◌∙◌}
use mathlib.Core.Bool.{Bool, true, false}
use mathlib.Core.List.{List}
use Rattle.std.specs.Prelude.{Result}
use Rattle.rules.specs.Input.{Input}
use Rattle.rules.specs.Answer.{Lent, printed}
use Rattle.refusals.specs.declared.Refusal.{Refusal}
use Rattle.answers.specs.Answers.{PrintedAt}
use Rattle.recipe.specs.Answers.{Collected, PlainFormed}
use Rattle.program.specs.Prints.{answer_for, AnswerPrinted}

module _ {plain : Bool} {i : Input} {m : Lent} {w b o₀ o : List ℕ} {r : Result ℕ Refusal} {n : ℕ} where
  pub form_printed : plain ≡ true → PlainFormed i m w b o₀ r → PrintedAt r o₀ o n → AnswerPrinted plain i m o n
  unfolding answer_for
  form_printed q c p = rw q record { is = p.is ∙ ap printed c.is; fits = p.fits }

  pub page_printed : plain ≡ false → Collected i m w b o₀ r → PrintedAt r o₀ o n → AnswerPrinted plain i m o n
  unfolding answer_for
  page_printed q c p = rw q record { is = p.is ∙ ap printed c.is; fits = p.fits }
