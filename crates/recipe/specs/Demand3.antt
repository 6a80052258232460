-- Demand 3 of the program: what `plain_form` hands out, in the words of the rules' `PlainForm`. proofs/Demand3.antt proves
-- it of every answer that meets the contract of `plain_form`.
use Rattle.std.specs.Prelude.{ℕ, ◌≤◌, ◌<◌, ◌≡◌, List, true, false, length, Result}
use Rattle.rules.specs.Input.{Input, with_sheet}
use Rattle.rules.specs.State.{State}
use Rattle.rules.specs.Page.{recipe_part, recipe_page}
use Rattle.rules.specs.Answer as rules
use Rattle.rules.specs.Answer.{answered, declined, Lent, is_short, hand_out, collect_answer, plain_answer, events_of}
use Rattle.rules.specs.PlainForm.{plain_form, lent_to, Iff, EveryLine, IsPlain, Demanded, Declined}
use Rattle.refusals.specs.declared.Refusal.{Refusal}
use Rattle.answers.specs.Answers.{answer_of}

-- `collect` with the memory m answers both sheets with a page, or 20 where its page is longer than the output; the two pages
-- are the same in all bytes above the findings
pub record SameCollected (form : List ℕ) (i : Input) (m : Lent) : Type 0 where
  pub state : State
  pub other_state : State
  pub form_page : collect_answer (with_sheet form i) m ≡ hand_out m.room (recipe_page state)
  pub sheet_page : collect_answer i m ≡ hand_out m.room (recipe_page other_state)
  pub above : recipe_part state ≡ recipe_part other_state

-- r is the answer with the memory m, o the output after it
module _ (i : Input) (m : Lent) (o : List ℕ) (r : Result ℕ Refusal) where
  -- these bytes are handed out
  abbrev pub Hands : List ℕ → Type 0
  Hands form = answer_of r o ≡ answered form

  pub record Demand3 : Type 0 where
    -- 1. a form is handed out exactly when the demand says so, and the memory lent suffices
    pub exactly : (form : List ℕ) → Iff (Hands form) (Demanded i form × (is_short m ≡ false) × (length form ≤ m.room))
    -- 2. with work memory enough, every other sheet is declined by the number and the line of the table
    pub otherwise : (n l : ℕ) → is_short m ≡ false → Declined i n l → answer_of r o ≡ declined n l
    -- 3. the form has no mode line that the flags heed, and every reference in it is explicit
    pub plain : (form : List ℕ) → Hands form → EveryLine (IsPlain i.flags) (events_of (with_sheet form i))
    -- 4 and 5. with the same text, units and flags `collect` accepts it, and its page is the sheet's above the findings
    pub same : (form : List ℕ) → Hands form → (m' : Lent) → is_short m' ≡ false → SameCollected form i m'
    -- 6. its own plain form, with the same memory, is itself
    pub own : (form : List ℕ) → Hands form → plain_answer (with_sheet form i) m ≡ answered form
    -- 7. "Where the form would be handed out but too little room is lent, 1 or 20 answers in its place.": the answer is that with
    -- memory enough, as far as the memory goes
    pub lent : answer_of r o ≡ lent_to m (plain_form i)
    -- so 1 with work memory too short
    pub short : is_short m ≡ true → answer_of r o ≡ declined 1 0
    -- and 20 where a form that the demand hands out is longer than the output
    pub narrow : (form : List ℕ) → Demanded i form → is_short m ≡ false → m.room < length form → answer_of r o ≡ declined 20 0
