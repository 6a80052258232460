-- What a form is told whose collection passed a limit.
use Rattle.std.specs.Prelude.{Bool, false, eqb, Option, Result, Ok, Err}
use Rattle.rules.specs.Basic.{pick}
use Rattle.refusals.specs.Told.{number_of}
use Rattle.refusals.specs.declared.Reason.TheVariants.{LongForm}
use Rattle.refusals.specs.declared.Refusal.{Refusal}
use Rattle.model.specs.declared.Held.{Held}

-- "its collection gives 17": `gives17` of what the pass answers
unfoldable pub tells17 : Result (Option Held) Refusal → Bool
tells17 (Ok o) = false
tells17 (Err f) = eqb (number_of f.reason) 17

-- 24 where the collection of a form gives 17, of whatever length the output is; any other collection lets the form pass
unfoldable pub form_checked : Result (Option Held) Refusal → Result (Unit {0}) Refusal
form_checked r = pick (tells17 r) (Err (record { reason = LongForm; line = 0 })) (Ok tt)
