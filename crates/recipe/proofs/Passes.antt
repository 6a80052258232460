-- One law for each way through the checks, the pass and the page.
use Prim.Native.Nat.{ℕ}
use mathlib.Core.Path.{◌≡◌, ap, sym, ◌∙◌}
use mathlib.Core.List.{List}
use native.Mathlib.Omega.{arith}
use Rattle.std.specs.Prelude.{Option, None, Some, Result, Ok, Err}
use borrow.Author.Tests.{le-ltb}
use lib.ListN.{length}
use Rattle.rules.specs.Input.{Input, context_of}
use Rattle.rules.specs.State.{Outcome, refusal}
use Rattle.rules.specs.Pass.{parse_events}
use Rattle.rules.specs.Answer.{Lent, words_needed, bytes_needed, is_short, hand_out, written, collect_answer, events_of}
use Rattle.rules.proofs.Agreed.{own_context}
use Rattle.refusals.specs.Told.{number_of}
use Rattle.refusals.specs.declared.Refusal.{Refusal}
use Rattle.inputs.specs.Inputs.{lent, InputsChecked, GoodInputs}
use Rattle.inputs.proofs.Answers.{refused_collect, good_words, good_short, good_text, good_collect}
use Rattle.model.specs.declared.Held.{Held}
use Rattle.pass.specs.Walks.{RanRecipe, RanFailed, RanBy, RanAs}
use Rattle.page.specs.Pages.{PageGiven, RecipePut, FailedPut}
use Rattle.answers.specs.Answers.{page_or20}
use Rattle.recipe.specs.Answers.{lends, Answered}
use Rattle.recipe.specs.Forms.{RecipeGiven}
use Rattle.recipe.proofs.Pages.{refused_as, Handed, page_handed}

-- ---- before the pass
module _ {i : Input} (m : Lent) {a : Result (Unit {0}) Refusal} (p : InputsChecked i m.words m.bytes a) where
  pub inputs_refused : {f : Refusal} (o : List ℕ) → length o ≡ m.room → a ≡ Err f → Answered (collect_answer i m) m.room o (Err f)
  inputs_refused o e q = refused_as o e (refused_collect i m (rw q at p))

-- ---- what the page is given
module _ {i : Input} {words bytes : ℕ} (g : GoodInputs i words bytes) where
  -- as many bytes as are needed serve as well as more
  good_fewer : {n : ℕ} → n ≡ words → GoodInputs i n bytes_needed
  unfolding is_short words_needed bytes_needed
  good_fewer {n} e = record { enough = rw (le-ltb n words_needed (omega (arith, good_words g))); no_fault = g.no_fault }

  -- the answer is what is written of what the pass made
  passed_on : (room : ℕ) {x : Outcome} → parse_events (context_of i) (events_of i) ≡ x → collect_answer i (lends (lent words bytes) room) ≡ written room x
  passed_on room e = good_collect i (lends (lent words bytes) room) g ∙ ap (written room) e

  handed : {room : ℕ} {w o₀ o : List ℕ} {r : Result ℕ Refusal} → length o₀ ≡ room → collect_answer i (lends (lent words bytes) room) ≡ hand_out room w
      → Handed w o₀ o r → Answered (collect_answer i (lends (lent words bytes) room)) room o r
  handed {room} {w} {o₀} {o} {r} e q h = record { is = h.is ∙ ap (λ (k : ℕ). hand_out k w) e ∙ sym q; fits = rw e at h.fits; long = h.long ∙ e }

  module _ {w₀ w : List ℕ} {a : Result (Option Held) Refusal} (p : RanAs i.text i.units i.flags i.sheet (events_of i) w₀ w a) where
    -- in the context of the inputs
    pub ran_own : RanBy (context_of i) i.sheet (events_of i) w a
    ran_own = p.is.at (context_of i) (own_context i)

    ran_recipe : {h : Held} → a ≡ Ok (Some h) → RanRecipe (context_of i) i.sheet (events_of i) w h
    unfolding RanBy
    ran_recipe q = rw q at ran_own

    pub recipe_given : {h : Held} → length w₀ ≡ words → a ≡ Ok (Some h) → RecipeGiven i w h
    recipe_given e q = record { inputs = good_fewer (p.long ∙ e); ran = ran_recipe q }

    pub page_given : {h : Held} → length w₀ ≡ words → a ≡ Ok (Some h) → PageGiven i.sheet i.text i.units i.flags w h
    page_given e q =
        record {
          text_utf8 = good_text g;
          sheet_short = good_short g;
          words_enough = rw (p.long ∙ e) (good_words g);
          context = context_of i;
          agrees = own_context i;
          ran = ran_recipe q;
        }

    pub recipe_answered : {room : ℕ} {w₁ : List ℕ} {h : Held} {o₀ o : List ℕ} {n : ℕ} {r : Result ℕ Refusal} → length o₀ ≡ room → a ≡ Ok (Some h)
        → RecipePut i.sheet i.text i.units i.flags w w₁ h o₀ o n → r ≡ page_or20 n (length o) → Answered (collect_answer i (lends (lent words bytes) room)) room o r
    unfolding written
    recipe_answered e q s k = let x = ran_recipe q in handed e (passed_on _ x.is) (page_handed (s.is (context_of i) (own_context i) x) k)

    pub failed_answered : {room : ℕ} {o₀ o : List ℕ} {n : ℕ} {r : Result ℕ Refusal} → length o₀ ≡ room → a ≡ Ok None
        → FailedPut i.sheet i.text o₀ o n → r ≡ page_or20 n (length o) → Answered (collect_answer i (lends (lent words bytes) room)) room o r
    unfolding written RanBy
    failed_answered e q s k =
        let x : RanFailed (context_of i) (events_of i) = rw q at ran_own in
        handed e (passed_on _ x.is) (page_handed (s.is (context_of i) x.findings x.is) k)

    pub refused_answered : {room : ℕ} {f : Refusal} (o : List ℕ) → length o ≡ room → a ≡ Err f → Answered (collect_answer i (lends (lent words bytes) room)) room o (Err f)
    unfolding written RanBy
    refused_answered {f = f} o e q =
        let x : parse_events (context_of i) (events_of i) ≡ refusal (number_of f.reason) f.line = rw q at ran_own in
        refused_as o e (passed_on _ x)
