-- What was written is what the rules answer.
use Prim.Native.Nat.{ℕ}
use mathlib.Core.Path.{◌≡◌, refl}
use mathlib.Core.List.{List}
use Rattle.std.specs.Prelude.{Ok, Err}
use Rattle.rules.specs.Input.{Input, Context, context_of}
use Rattle.rules.specs.Plain.{Traced, plain_events, sheet_of}
use Rattle.rules.specs.Answer.{declined, form_answer, form_of}
use Rattle.refusals.specs.Told.{number_of}
use Rattle.refusals.specs.declared.Refusal.{Refusal}
use Rattle.output.specs.Put.{Put}
use Rattle.model.specs.declared.Held.{Held}
use Rattle.plain_walk.specs.Walk.{Left, trace_of, FormedAs, FormWritten}

module _ (i : Input) where
  abbrev cx : Context
  cx = context_of i

  abbrev lines : List Traced
  lines = trace_of cx i.text i.sheet

  pub form_declined : {w : List ℕ} {h : Held} {o₀ o : List ℕ} {f : Refusal} (room : ℕ) → Left cx i.text i.sheet w h → FormWritten i.text i.flags i.sheet w h o₀ o (Err f) → form_of i room lines ≡ declined (number_of f.reason) f.line
  unfolding form_of FormedAs
  form_declined room l x = (x.is cx refl refl l).0 (form_answer i room (sheet_of (plain_events cx lines)))

  pub form_answered : {w : List ℕ} {h : Held} {o₀ o : List ℕ} {r : ℕ} (room : ℕ) → Left cx i.text i.sheet w h → FormWritten i.text i.flags i.sheet w h o₀ o (Ok r) → form_of i room lines ≡ form_answer i room (sheet_of (plain_events cx lines))
  unfolding form_of FormedAs
  form_answered room l x = (x.is cx refl refl l).0 (form_answer i room (sheet_of (plain_events cx lines)))

  pub form_put : {w : List ℕ} {h : Held} {o₀ o : List ℕ} {r : ℕ} → Left cx i.text i.sheet w h → FormWritten i.text i.flags i.sheet w h o₀ o (Ok r) → Put (sheet_of (plain_events cx lines)) o₀ 0 o r
  unfolding FormedAs
  form_put l x = (x.is cx refl refl l).1
