-- Demand 3 of the program: from the contract of `plain_form` and the rules' theorem `plain_form_holds`.
use Prim.Native.Nat.{ℕ, ◌≤◌, ◌<◌}
use mathlib.Core.Path.{◌≡◌, refl, sym, subst, ◌∙◌}
use mathlib.Core.Bool.{Bool, true, false}
use mathlib.Core.List.{List}
use Rattle.std.specs.Prelude.{Result}
use borrow.Author.Tests.{le-leb, leb-true, lt-leb}
use lib.Dec.{leb}
use lib.ListN.{length}
use Rattle.rules.specs.Basic.{pick}
use Rattle.rules.specs.Input.{Input, with_sheet}
use Rattle.rules.specs.State.{recipe}
use Rattle.rules.specs.Answer as rules
use Rattle.rules.specs.Answer.{answered, declined, Lent, is_short, hand_out, written, collection, collect_answer, plain_answer}
use Rattle.rules.specs.Page.{recipe_page}
use Rattle.rules.specs.PlainForm.{plain_form, fitted, lent_to, SamePage, Demanded, Declined, PlainForm}
use Rattle.rules.proofs.Basics.{pick_either}
use Rattle.rules.proofs.Lending.{plain_lent}
use Rattle.rules.proofs.PlainForm as rules-proofs
use Rattle.refusals.specs.declared.Refusal.{Refusal}
use Rattle.recipe.proofs.Clears.{not_answered, same_bytes}
use Rattle.answers.specs.Answers.{answer_of}
use Rattle.recipe.specs.Answers.{PlainFormed}
use Rattle.recipe.specs.Demand3.{SameCollected, Demand3}

-- ---- with the memory lent
abbrev Lends : Bool → ℕ → rules.Answer → List ℕ → Type 0
Lends s room x form = (s ≡ false) × (length form ≤ room) × (x ≡ answered form)

lends : (s : Bool) (room : ℕ) (x : rules.Answer) (form : List ℕ) → pick s (declined 1 0) (fitted room x) ≡ answered form → Lends s room x form
unfolding hand_out
lends true room x form q = not_answered q
lends false room (declined n l) form q = not_answered q
lends false room (answered bytes) form q =
    pick_either (λ (a : rules.Answer). a ≡ answered form → Lends false room (answered bytes) form) (leb (length bytes) room) _ _
    (λ h k. let l : length bytes ≤ room = leb-true (length bytes) room h in (refl, subst (λ (x : List ℕ). length x ≤ room) (same_bytes k) l, k)) (λ h k. not_answered k) q

gives : (s : Bool) (room : ℕ) (x : rules.Answer) (form : List ℕ) → Lends s room x form → pick s (declined 1 0) (fitted room x) ≡ answered form
unfolding hand_out
gives s room x form h = rw (h.0, h.2, le-leb (length form) room h.1)

-- ---- the theorem
module _ (i : Input) (m : Lent) (w b o : List ℕ) (r : Result ℕ Refusal) (p : PlainFormed i m w b o r) where
  rule : PlainForm i
  rule = rules-proofs.plain_form_holds i

  answers : answer_of r o ≡ lent_to m (plain_form i)
  answers = p.is ∙ rule.lent m

  handed : (form : List ℕ) → answer_of r o ≡ answered form → Lends (is_short m) m.room (plain_form i) form
  handed form q = lends (is_short m) m.room (plain_form i) form (sym answers ∙ q)

  forth : (form : List ℕ) → answer_of r o ≡ answered form → Demanded i form × (is_short m ≡ false) × (length form ≤ m.room)
  forth form q = let h = handed form q in ((rule.exactly form).forth h.2, h.0, h.1)

  back : (form : List ℕ) → Demanded i form × (is_short m ≡ false) × (length form ≤ m.room) → answer_of r o ≡ answered form
  back form d = answers ∙ gives (is_short m) m.room (plain_form i) form (d.1, d.2, (rule.exactly form).back d.0)

  declines : (n l : ℕ) → is_short m ≡ false → Declined i n l → answer_of r o ≡ declined n l
  declines n l s d = answers ∙ rw (s, (rule.otherwise n l).back d)

  short_answer : is_short m ≡ true → answer_of r o ≡ declined 1 0
  short_answer s = answers ∙ rw s

  narrow_answer : (form : List ℕ) → Demanded i form → is_short m ≡ false → m.room < length form → answer_of r o ≡ declined 20 0
  unfolding hand_out
  narrow_answer form d s h = answers ∙ rw (s, (rule.exactly form).back d, lt-leb (length form) m.room h)

  own_form : (form : List ℕ) → answer_of r o ≡ answered form → plain_answer (with_sheet form i) m ≡ answered form
  own_form form q =
      let h = handed form q in
      plain_lent (with_sheet form i) m ∙ gives (is_short m) m.room (plain_form (with_sheet form i)) form (h.0, h.1, rule.own form h.2)

  -- a page that `collect` answers
  page_of : (j : Input) (m' : Lent) → is_short m' ≡ false → {st : _} → collection j ≡ recipe st
      → collect_answer j m' ≡ hand_out m'.room (recipe_page st)
  unfolding collect_answer written
  page_of j m' s q = rw (s, q)

  same_page : (form : List ℕ) → answer_of r o ≡ answered form → (m' : Lent) → is_short m' ≡ false → SameCollected form i m'
  same_page form q m' s =
      let x : SamePage (collection (with_sheet form i)) (collection i) = rule.same form (handed form q).2 in
      record {
        state = x.state;
        other_state = x.other_state;
        form_page = page_of (with_sheet form i) m' s x.yields;
        sheet_page = page_of i m' s x.other_yields;
        above = x.above;
      }

  pub demand_3 : Demand3 i m o r
  demand_3 =
      record {
        exactly = λ form. record { forth = forth form; back = back form };
        otherwise = declines;
        plain = λ form q. rule.plain form (handed form q).2;
        same = same_page;
        own = own_form;
        lent = answers;
        short = short_answer;
        narrow = narrow_answer;
      }
