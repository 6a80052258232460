-- Demand 3 as one statement about a whole sheet: `PlainForm i`, which proofs/PlainForm.antt proves for any
-- bytes and any flags. It speaks in the words of Demand.antt, line by line, not in the plain form's own tests.
use Rattle.std.specs.Prelude.{ℕ, suc, ◌≡◌, List, [], ◌∷◌, ◌++◌, reverse, true, false, length, None, Some}
use Rattle.rules.specs.Basic.{pick}
use Rattle.rules.specs.Event.{Event, between, inside, parser_event}
use Rattle.rules.specs.Input.{Input, with_sheet, context_of}
use Rattle.rules.specs.Modes.{is_components}
use Rattle.rules.specs.State.{State, first_state, going, Outcome, recipe, refusal}
use Rattle.rules.specs.Pass.{is_error_event}
use Rattle.rules.specs.Page.{recipe_part}
use Rattle.rules.specs.Plain.{plain_events, trace_from, sheet_of}
use Rattle.rules.specs.Answer.{Answer, answered, declined, events_of, collection, Lent, enough, is_short, hand_out, plain_answer}
use Rattle.rules.specs.Demand.{is_accepted, yields_recipe, is_within_limits, is_component_line, is_heeded, define_at, Unmarked, implicit_at, last_of_name}

-- "for every line": the line, and the lines before it, newest first
abbrev pub EveryLine : (List Event → Event → Type 0) → List Event → Type 0
EveryLine P es = (before after : List Event) (e : Event) → es ≡ before ++ (e ∷ after) → P (reverse before) e

pub record Iff (A B : Type 0) : Type 0 where
  pub forth : A → B
  pub back : B → A

-- ---- one line, after the lines `earlier`

module _ (flags : ℕ) (earlier : List Event) (e : Event) where
  -- it does not stand in a form's way: it is no component in components mode, and where it is an implicit reference, it refers to
  -- the last earlier entry of its name that is not marked as a reference
  pub record IsClear : Type 0 where
    pub unlisted : is_component_line e ≡ true → is_components (define_at flags earlier) ≡ false
    pub last : (u : Unmarked) → implicit_at flags earlier e ≡ Some u → last_of_name flags earlier e ≡ Some u

  -- it does: "22 component in a components-mode step, 23 implicit reference not to the last non-REF of its name", "the lowest
  -- number on a line first"
  pub data Faulty : ℕ → Type 0 where
    listed : is_component_line e ≡ true → is_components (define_at flags earlier) ≡ true → Faulty 22
    not_last : is_components (define_at flags earlier) ≡ false → (u : Unmarked) → implicit_at flags earlier e ≡ Some u
        → (last_of_name flags earlier e ≡ Some u → ⊥) → Faulty 23

  -- a line of a form: no mode line that the flags heed, and no implicit reference
  pub record IsPlain : Type 0 where
    pub unheeded : is_heeded flags e ≡ false
    pub explicit : implicit_at flags earlier e ≡ None

-- ---- the form

-- the bytes of the form that the rules make of a sheet, whether it is handed out or not
abbrev pub form_bytes : Input → List ℕ
form_bytes i = sheet_of (plain_events (context_of i) (trace_from (context_of i) 1 (going first_state) (events_of i)))

-- what `plain_form` answers with memory enough
abbrev pub plain_form : Input → Answer
plain_form i = plain_answer i enough

-- what it answers with other memory: 1 where work memory is too short, 20 where the output is too short for the form
abbrev pub fitted : ℕ → Answer → Answer
fitted room (answered bytes) = hand_out room bytes
fitted room (declined n l) = declined n l

abbrev pub lent_to : Lent → Answer → Answer
lent_to m a = pick (is_short m) (declined 1 0) (fitted m.room a)

-- the `error` and `warning` lines among some
abbrev pub parser_lines : List Event → List Event
parser_lines [] = []
parser_lines (between b ∷ es) = parser_lines es
parser_lines (inside i ∷ es) = parser_lines es
parser_lines (parser_event s n ∷ es) = parser_event s n ∷ parser_lines es

-- two collections with recipes whose pages have the same bytes above the findings: `recipe_page st` is `recipe_part st` and then the
-- findings' lines
pub record SamePage (one other : Outcome) : Type 0 where
  pub state : State
  pub other_state : State
  pub yields : one ≡ recipe state
  pub other_yields : other ≡ recipe other_state
  pub above : recipe_part state ≡ recipe_part other_state

-- ---- demand 3

module _ (i : Input) where
  -- when a form is handed out, and which
  pub record Demanded (form : List ℕ) : Type 0 where
    pub accepted : is_accepted (collection i) ≡ true
    pub yields : yields_recipe (events_of i) ≡ true
    pub clear : EveryLine (IsClear i.flags) (events_of i)
    pub made : form ≡ form_bytes i
    pub fits : is_within_limits form i ≡ true

  -- why none is handed out: the number and the line
  pub data Declined : ℕ → ℕ → Type 0 where
    -- 1 to 19: as the collection
    as_collected : {n l : ℕ} → collection i ≡ refusal n l → Declined n l
    -- 21: at the first `error` line
    with_error : is_accepted (collection i) ≡ true
        → (before after : List Event) (e : Event) → events_of i ≡ before ++ (e ∷ after)
        → yields_recipe before ≡ true → is_error_event e ≡ true → Declined 21 (suc (length before))
    -- 22 and 23: at the first line that has one
    at_line : {n : ℕ} → is_accepted (collection i) ≡ true → yields_recipe (events_of i) ≡ true
        → (before after : List Event) (e : Event) → events_of i ≡ before ++ (e ∷ after)
        → EveryLine (IsClear i.flags) before → Faulty i.flags (reverse before) e n → Declined n (suc (length before))
    -- 24
    over_limit : is_accepted (collection i) ≡ true → yields_recipe (events_of i) ≡ true
        → EveryLine (IsClear i.flags) (events_of i)
        → is_within_limits (form_bytes i) i ≡ false → Declined 24 0

  -- `form` is handed out
  abbrev pub HandedOut : List ℕ → Type 0
  HandedOut form = plain_form i ≡ answered form

  pub record PlainForm : Type 0 where
    -- 1. a form is handed out exactly when the demand says so
    pub exactly : (form : List ℕ) → Iff (HandedOut form) (Demanded form)
    -- 2. every other sheet is declined by the number and the line of the table
    pub otherwise : (n l : ℕ) → Iff (plain_form i ≡ declined n l) (Declined n l)
    -- 3. the form has no mode line that the flags heed, and every reference in it is explicit
    pub plain : (form : List ℕ) → HandedOut form → EveryLine (IsPlain i.flags) (events_of (with_sheet form i))
    -- 4. with the same text, units and flags it is accepted
    pub accepted : (form : List ℕ) → HandedOut form → is_accepted (collection (with_sheet form i)) ≡ true
    -- 5. its recipe page is the sheet's in all bytes above the findings
    pub same : (form : List ℕ) → HandedOut form → SamePage (collection (with_sheet form i)) (collection i)
    -- 6. its own plain form is itself
    pub own : (form : List ℕ) → HandedOut form → plain_form (with_sheet form i) ≡ answered form
    -- 7. with other memory: "Where the form would be handed out but too little room is lent, 1 or 20 answers in its place."; a sheet
    -- that is declined keeps its number and line, unless 1 comes before them
    pub lent : (m : Lent) → plain_answer i m ≡ lent_to m (plain_form i)
