-- With other memory than enough: 1 or 20 in the form's place, and nothing else changes.
use Prim.Native.Nat.{ℕ}
use mathlib.Core.Path.{◌≡◌, refl, ap, ◌∙◌}
use mathlib.Core.List.{List, [], ◌∷◌}
use mathlib.Core.Bool.{Bool, true, false, ◌||◌}
use Rattle.std.specs.Prelude.{Option, None, Some}
use lib.Dec.{leb, ltb}
use lib.ListN.{length}
use borrow.Author.Tests.{ltb-false, le-leb}
use Rattle.rules.specs.Basic.{pick}
use Rattle.rules.specs.Event.{Event}
use Rattle.rules.specs.Input.{Input, with_sheet, Context, context_of}
use Rattle.rules.specs.State.{first_state, going, Outcome, recipe, no_recipe, refusal}
use Rattle.rules.specs.Plain.{Traced, plain_fault, plain_events, trace_from, sheet_of}
use Rattle.rules.specs.Answer.{Answer, declined, events_of, collection, Lent, words_needed, bytes_needed, is_short, hand_out, gives17, form_answer, fault_or, unless_faulty, form_of, plain_of, plain_answer}
use Rattle.rules.specs.PlainForm.{plain_form, fitted, lent_to}

unless_fitted : (cx : Context) (room : ℕ) (w : Answer) (ts : List Traced)
    → unless_faulty cx (fitted room w) ts ≡ fitted room (unless_faulty cx w ts)
unfolding unless_faulty
unless_fitted cx room w [] = refl
unless_fitted cx room w (t ∷ ts) = by (plain_fault cx t.state t.event) (unless_fitted cx room w ts)
  where
    by : (o : Option ℕ) → unless_faulty cx (fitted room w) ts ≡ fitted room (unless_faulty cx w ts)
        → fault_or t.line o (unless_faulty cx (fitted room w) ts) ≡ fitted room (fault_or t.line o (unless_faulty cx w ts))
    by None q = unfold fault_or in q
    by (Some n) q = unfold fault_or in refl

form_fitted : (i : Input) (room : ℕ) (form : List ℕ) → form_answer i room form ≡ fitted room (form_answer i 65536 form)
unfolding form_answer hand_out
form_fitted i room form = by (ltb 65536 (length form)) refl (gives17 (collection (with_sheet form i)))
  where
    by : (b : Bool) → ltb 65536 (length form) ≡ b → (c : Bool)
        → pick (b || c) (declined 24 0) (hand_out room form) ≡ fitted room (pick (b || c) (declined 24 0) (hand_out 65536 form))
    by true q c = refl
    by false q true = refl
    by false q false = let z : leb (length form) 65536 ≡ true = le-leb (length form) 65536 (ltb-false 65536 (length form) q) in rw z

pub plain_lent : (i : Input) (m : Lent) → plain_answer i m ≡ lent_to m (plain_form i)
unfolding plain_answer
plain_lent i m = ap (pick (is_short m) (declined 1 0)) (by (collection i) ∙ ap (fitted m.room) with_enough)
  where
    cx : Context
    cx = context_of i

    es : List Event
    es = events_of i

    by : (o : Outcome) → plain_of i m.room es o ≡ fitted m.room (plain_of i 65536 es o)
    by (refusal n l) = unfold plain_of in refl
    by (no_recipe fs) = unfold plain_of in refl
    by (recipe st) =
        unfold plain_of form_of in
        (ap (λ (w : Answer). unless_faulty cx w (trace_from cx 1 (going first_state) es))
        (form_fitted i m.room (sheet_of (plain_events cx (trace_from cx 1 (going first_state) es))))
        ∙ unless_fitted cx m.room _ (trace_from cx 1 (going first_state) es))

    with_enough : plain_of i 65536 es (collection i) ≡ plain_form i
    with_enough = unfold is_short words_needed bytes_needed in refl
