-- Demand 3: `plain_form_holds`, the statement of specs/PlainForm.antt for any bytes and any flags.
use Prim.Native.Nat.{ℕ, suc, ◌+◌}
use mathlib.Core.Path.{◌≡◌, refl, sym, ap, ◌∙◌, subst}
use mathlib.Core.List.{List, []}
use mathlib.Core.Bool.{Bool, true, false, ◌&&◌, ◌||◌, not}
use native.Mathlib.Omega.{arith}
use lib.Dec.{leb, ltb}
use lib.ListN.{length}
use borrow.Author.Tests.{not-true, leb-true, leb-false, le-ltb, lt-ltb}
use Rattle.rules.specs.Basic.{any}
use Rattle.rules.specs.Event.{Event}
use Rattle.rules.specs.Input.{Input, with_sheet, Context, context_of}
use Rattle.rules.specs.Finding.{Finding}
use Rattle.rules.specs.State.{State, first_state, going, Outcome, recipe, no_recipe, refusal}
use Rattle.rules.specs.Pass.{is_error_event, walk, parse_events}
use Rattle.rules.specs.Plain.{Traced, plain_events, trace_from, sheet_of}
use Rattle.rules.specs.Answer.{Answer, answered, declined, events, read_sheet, events_of, collection, words_needed, bytes_needed, is_short, hand_out, error_line, gives17, form_answer, fault_or, unless_faulty, form_of, plain_of, events_or, plain_answer}
use Rattle.rules.specs.Demand.{is_accepted, yields_recipe, is_within_limits}
use Rattle.rules.specs.PlainForm.{EveryLine, IsClear, IsPlain, form_bytes, plain_form, parser_lines, SamePage, Demanded, Declined, as_collected, with_error, at_line, over_limit, HandedOut, PlainForm}
use Rattle.rules.proofs.Basics.{no_truth, and_left, and_right}
use Rattle.rules.proofs.Sim.{as_form}
use Rattle.rules.proofs.SimWalk.{NoFaults, no_line, no_fault, Same, yields, limit, page_same, Went, went, form_yields}
use Rattle.rules.proofs.Quiet.{Quiet, quiet_before, form_quiet, quiet_explicit}
use Rattle.rules.proofs.Fixed.{OwnForm, form_fixed}
use Rattle.rules.proofs.Kept.{form_reads}
use Rattle.rules.proofs.Known.{first_knows}
use Rattle.rules.proofs.FaultWalk.{Every, every_lines, lines_every, clear_trace, Found, all_clear, first_at, faults_found, fault_at}
use Rattle.rules.proofs.Order.{InOrder, form_order, collected_is, collected}
use Rattle.rules.proofs.Collected.{recipe_yields, failed_yields, FirstError, first_error, error_at}
use Rattle.rules.proofs.Warnings.{plain_parsers}
use Rattle.rules.proofs.Lending.{plain_lent}

not_answered : {P : Type 0} {n l : ℕ} {f : List ℕ} → declined n l ≡ answered f → P
not_answered q = absurd (let z : ◌≡◌ {A = ℕ} 0 1 = cc in omega arith)

same_answer : {a b : List ℕ} → answered a ≡ answered b → a ≡ b
same_answer q = cc

same_number : {n m l k : ℕ} → declined n l ≡ declined m k → (n ≡ m) × (l ≡ k)
same_number q = (cc, cc)

-- ---- 24, or the form

over_or : (b c d : Bool) → b ≡ not c → (b || d) ≡ not (c && not d)
over_or b true true q = rw q
over_or b true false q = rw q
over_or b false true q = rw q
over_or b false false q = rw q

ltb_leb : (m n : ℕ) → ltb m n ≡ not (leb n m)
ltb_leb m n = by (leb n m) refl
  where
    by : (b : Bool) → leb n m ≡ b → ltb m n ≡ not b
    by true e = le-ltb m n (leb-true n m e)
    by false e = lt-ltb m n (leb-false n m e)

module _ (i : Input) (form : List ℕ) where
  over_is : (ltb 65536 (length form) || gives17 (collection (with_sheet form i))) ≡ not (is_within_limits form i)
  unfolding is_within_limits
  over_is = over_or (ltb 65536 (length form)) (leb (length form) 65536) (gives17 (collection (with_sheet form i))) (ltb_leb 65536 (length form))

  form_fits : is_within_limits form i ≡ true → leb (length form) 65536 ≡ true
  unfolding is_within_limits
  form_fits q = and_left _ _ q

  within_form : is_within_limits form i ≡ true → form_answer i 65536 form ≡ answered form
  unfolding form_answer hand_out
  within_form q = rw (over_is, q, form_fits q)

  beyond_form : is_within_limits form i ≡ false → form_answer i 65536 form ≡ declined 24 0
  unfolding form_answer
  beyond_form q = rw (over_is, q)

  -- what a form within the limits has passed
  form_short : is_within_limits form i ≡ true → ltb 65536 (length form) ≡ false
  form_short q = le-ltb 65536 (length form) (leb-true (length form) 65536 (form_fits q))

  form_no_17 : is_within_limits form i ≡ true → gives17 (collection (with_sheet form i)) ≡ false
  unfolding is_within_limits
  form_no_17 q = not-true (gives17 (collection (with_sheet form i))) (and_right (leb (length form) 65536) _ q)

none_faults : (cx : Context) (whole : Answer) {ts : List Traced} → NoFaults cx ts
    → unless_faulty cx whole ts ≡ whole
unfolding unless_faulty fault_or
none_faults cx whole no_line = refl
none_faults cx whole (no_fault p h) = rw p (none_faults cx whole h)

over_17 : {P : Type 0} (l : ℕ) → gives17 (refusal 17 l) ≡ false → P
unfolding gives17
over_17 l q = no_truth (sym q)

error_no_recipe : (l : List Event) → any is_error_event l ≡ true → yields_recipe l ≡ false
unfolding yields_recipe
error_no_recipe l q = rw q

one_more : (n : ℕ) → 1 + n ≡ suc n
one_more n = omega arith

answer_by_recipe : (i : Input) (st : State) → collection i ≡ recipe st
    → plain_form i
    ≡ unless_faulty (context_of i) (form_answer i 65536 (form_bytes i)) (trace_from (context_of i) 1 (going first_state) (events_of i))
unfolding plain_answer is_short words_needed bytes_needed plain_of form_of
answer_by_recipe i st q = rw q

module _ (i : Input) where
  abbrev cx : Context
  cx = context_of i

  abbrev es : List Event
  es = events_of i

  abbrev trace : List Traced
  trace = trace_from cx 1 (going first_state) es

  abbrev ps : List Event
  ps = plain_events cx trace

  abbrev form : List ℕ
  form = form_bytes i

  abbrev whole : Answer
  whole = form_answer i 65536 form

  abbrev outcome : Outcome
  outcome = collection i

  -- ---- the answer by the collection

  by_refusal : (n l : ℕ) → outcome ≡ refusal n l → plain_form i ≡ declined n l
  unfolding plain_answer is_short words_needed bytes_needed plain_of
  by_refusal n l q = rw q

  by_error : (fs : List Finding) → outcome ≡ no_recipe fs → plain_form i ≡ declined 21 (error_line 1 es)
  unfolding plain_answer is_short words_needed bytes_needed plain_of
  by_error fs q = rw q

  by_recipe : (st : State) → outcome ≡ recipe st → plain_form i ≡ unless_faulty cx whole trace
  by_recipe = answer_by_recipe i

  -- ---- a sheet that is accepted and yields a recipe

  record Yielding : Type 0 where
    state : State
    got : InOrder i
    has_recipe : outcome ≡ recipe state
    went_on : Went cx es state

  accepted_as : (o : Outcome) → outcome ≡ o → is_accepted o ≡ true → is_accepted outcome ≡ true
  accepted_as o q p = ap is_accepted q ∙ p

  parsed_as : (got : InOrder i) → outcome ≡ parse_events cx es
  parsed_as got = collected_is i got

  yielding : (st : State) → outcome ≡ recipe st → Yielding
  yielding st q =
      let got : InOrder i = collected i (accepted_as (recipe st) q (unfold is_accepted in refl)) in
      record { state = st; got = got; has_recipe = q; went_on = went cx es st (sym (parsed_as got) ∙ q) }

  recipe_means : (st : State) → outcome ≡ recipe st → yields_recipe es ≡ true
  recipe_means st q = recipe_yields cx es st (sym (parsed_as (yielding st q).got) ∙ q)

  error_means : (fs : List Finding) → outcome ≡ no_recipe fs → any is_error_event es ≡ true
  error_means fs q =
      let got : InOrder i = collected i (accepted_as (no_recipe fs) q (unfold is_accepted in refl)) in
      failed_yields cx es fs (sym (parsed_as got) ∙ q)

  -- accepted: with a recipe, or with an `error` line
  data Accepted : Type 0 where
    with_recipe : (st : State) → outcome ≡ recipe st → Accepted
    with_error_lem : (fs : List Finding) → outcome ≡ no_recipe fs → Accepted

  accepted_either : is_accepted outcome ≡ true → Accepted
  accepted_either = by outcome refl
    where
      by : (o : Outcome) → outcome ≡ o → is_accepted o ≡ true → Accepted
      by (recipe st) q p = with_recipe st q
      by (no_recipe fs) q p = with_error_lem fs q
      by (refusal n l) q p = unfold is_accepted in no_truth p

  accepted_yields : is_accepted outcome ≡ true → yields_recipe es ≡ true → Yielding
  accepted_yields a y = by (accepted_either a)
    where
      by : Accepted → Yielding
      by (with_recipe st q) = yielding st q
      by (with_error_lem fs q) = no_truth (sym (error_no_recipe es (error_means fs q)) ∙ y)

  accepted_error : is_accepted outcome ≡ true → yields_recipe es ≡ false → (fs : List Finding) × (outcome ≡ no_recipe fs)
  accepted_error a y = by (accepted_either a)
    where
      by : Accepted → (fs : List Finding) × (outcome ≡ no_recipe fs)
      by (with_recipe st q) = no_truth (sym y ∙ recipe_means st q)
      by (with_error_lem fs q) = (fs, q)

  first_of : (w : Answer) (y : Yielding) → Found cx w [] 1 es (unless_faulty cx w trace)
  first_of w y = faults_found cx w es [] 1 first_state y.went_on.last y.went_on.there (first_knows i.flags)

  -- ---- 1. exactly when

  demanded : (f : List ℕ) → plain_form i ≡ answered f → Demanded i f
  demanded f q = by outcome refl
    where
      by_limits : (y : Yielding) → Every (IsClear i.flags) [] es → (b : Bool) → is_within_limits form i ≡ b → whole ≡ answered f
          → Demanded i f
      by_limits y c false w p = not_answered (sym (beyond_form i form w) ∙ p)
      by_limits y c true w p =
          let z : f ≡ form = same_answer (sym p ∙ within_form i form w) in
          record {
            accepted = accepted_as (recipe y.state) y.has_recipe (unfold is_accepted in refl);
            yields = recipe_means y.state y.has_recipe;
            clear = every_lines (IsClear i.flags) es c;
            made = z;
            fits = ap (λ (x : List ℕ). is_within_limits x i) z ∙ w;
          }

      by_found : (y : Yielding) {a : Answer} → Found cx whole [] 1 es a → a ≡ answered f → Demanded i f
      by_found y (all_clear c) p = by_limits y c (is_within_limits form i) refl p
      by_found y (first_at before rest e s c x) p = not_answered p

      by : (o : Outcome) → outcome ≡ o → Demanded i f
      by (refusal n l) p = not_answered (sym (by_refusal n l p) ∙ q)
      by (no_recipe fs) p = not_answered (sym (by_error fs p) ∙ q)
      by (recipe st) p = by_found (yielding st p) (first_of whole (yielding st p)) (sym (by_recipe st p) ∙ q)

  faultless : (y : Yielding) → EveryLine (IsClear i.flags) es → NoFaults cx trace
  faultless y c =
      clear_trace cx es [] 1 first_state y.went_on.last y.went_on.there (first_knows i.flags) (lines_every (IsClear i.flags) es c)

  handed : (f : List ℕ) → Demanded i f → plain_form i ≡ answered f
  handed f d =
      let y : Yielding = accepted_yields d.accepted d.yields in
      by_recipe y.state y.has_recipe ∙ none_faults cx whole (faultless y d.clear)
      ∙ within_form i form (ap (λ (x : List ℕ). is_within_limits x i) (sym d.made) ∙ d.fits) ∙ ap answered (sym d.made)

  -- ---- 2. every other

  declines : {n l : ℕ} → Declined i n l → plain_form i ≡ declined n l
  declines (as_collected {n} {l} q) = by_refusal n l q
  declines (with_error a before after e s n x) =
      let r = error_at before after e 1 n x in
      let z : yields_recipe es ≡ false = ap yields_recipe s ∙ r.1 in
      let f = accepted_error a z in
      by_error f.0 f.1 ∙ ap (declined 21) (ap (error_line 1) s ∙ r.0 ∙ one_more (length before))
  declines (at_line {n} a y before after e s c x) =
      let g : Yielding = accepted_yields a y in
      by_recipe g.state g.has_recipe
      ∙ ap (λ (l : List Event). unless_faulty cx whole (trace_from cx 1 (going first_state) l)) s
      ∙ fault_at cx whole before [] 1 n e after first_state g.went_on.last
      (ap (walk cx 1 (going first_state)) (sym s) ∙ g.went_on.there) (first_knows i.flags) (lines_every (IsClear i.flags) before c) x
      ∙ ap (declined n) (one_more (length before))
  declines (over_limit a y c w) =
      let g : Yielding = accepted_yields a y in
      by_recipe g.state g.has_recipe ∙ none_faults cx whole (faultless g c) ∙ beyond_form i form w

  reasons : (n l : ℕ) → plain_form i ≡ declined n l → Declined i n l
  reasons n l q = by outcome refl
    where
      the : (m k : ℕ) → Declined i m k → declined m k ≡ declined n l → Declined i n l
      the m k d p = let z = same_number p in subst (λ (x : ℕ). Declined i x l) z.0 (subst (Declined i m) z.1 d)

      is_accepted_lem : (y : Yielding) → is_accepted outcome ≡ true
      is_accepted_lem y = accepted_as (recipe y.state) y.has_recipe (unfold is_accepted in refl)

      by_limits : (y : Yielding) → Every (IsClear i.flags) [] es → (b : Bool) → is_within_limits form i ≡ b → whole ≡ declined n l
          → Declined i n l
      by_limits y c true w p = not_answered (sym p ∙ within_form i form w)
      by_limits y c false w p =
          the 24 0 (over_limit (is_accepted_lem y) (recipe_means y.state y.has_recipe) (every_lines (IsClear i.flags) es c) w)
          (sym (beyond_form i form w) ∙ p)

      by_found : (y : Yielding) {a : Answer} → Found cx whole [] 1 es a → a ≡ declined n l → Declined i n l
      by_found y (all_clear c) p = by_limits y c (is_within_limits form i) refl p
      by_found y (first_at {n = m} before rest e s c x) p =
          the m (suc (length before)) (at_line (is_accepted_lem y) (recipe_means y.state y.has_recipe) before rest e s (every_lines (IsClear i.flags) before c) x)
          (ap (declined m) (sym (one_more (length before))) ∙ p)

      by_first : (fs : List Finding) → outcome ≡ no_recipe fs → FirstError 1 es → Declined i n l
      by_first fs p r =
          the 21 (suc (length r.before))
          (with_error (accepted_as (no_recipe fs) p (unfold is_accepted in refl)) r.before r.rest r.error r.is r.none_before r.is_error_lem)
          (ap (declined 21) (sym (r.at_line_lem ∙ one_more (length r.before))) ∙ sym (by_error fs p) ∙ q)

      by : (o : Outcome) → outcome ≡ o → Declined i n l
      by (refusal m k) p = the m k (as_collected p) (sym (by_refusal m k p) ∙ q)
      by (no_recipe fs) p = by_first fs p (first_error es 1 (error_means fs p))
      by (recipe st) p = by_found (yielding st p) (first_of whole (yielding st p)) (sym (by_recipe st p) ∙ q)

  -- ---- 3 to 6: of a form that is handed out

  module _ (y : Yielding) (clear : EveryLine (IsClear i.flags) es) (fits : is_within_limits form i ≡ true) where
    form_read : read_sheet i.text form ≡ events ps
    form_read = form_reads i.text i.sheet cx es y.got.read

    form_events : events_of (with_sheet form i) ≡ ps
    unfolding events_or
    form_events = ap events_or form_read

    form_collection : collection (with_sheet form i) ≡ parse_events cx ps
    form_collection =
        collected_is (with_sheet form i) (form_order form y.got (form_short i form fits) ps form_read) ∙ ap (parse_events cx) form_events

    form_recipe : (fs : List Finding) × (collection (with_sheet form i) ≡ recipe (as_form fs y.state))
    form_recipe = by (form_yields cx es y.state (sym (parsed_as y.got) ∙ y.has_recipe) (faultless y clear)) form_collection
      where
        by : {o : Outcome} → Same y.state o → collection (with_sheet form i) ≡ o
            → (fs : List Finding) × (collection (with_sheet form i) ≡ recipe (as_form fs y.state))
        by (yields fs) q = (fs, q)
        by (limit l) q = over_17 l (rw q at (form_no_17 i form fits))

    form_quiet_lines : EveryLine (IsPlain i.flags) (events_of (with_sheet form i))
    form_quiet_lines before after e q =
        let h = quiet_before before e after (subst (Quiet i.flags) (sym form_events ∙ q) (form_quiet cx trace)) in
        record { unheeded = h.1; explicit = quiet_explicit h.0 e }

    -- "(their `warning` lines kept)"
    form_warnings : parser_lines (events_of (with_sheet form i)) ≡ parser_lines es
    form_warnings = ap parser_lines form_events ∙ plain_parsers cx es 1 first_state y.went_on.last y.went_on.there

    form_accepted : is_accepted (collection (with_sheet form i)) ≡ true
    unfolding is_accepted
    form_accepted = ap is_accepted form_recipe.1

    form_page_lem : SamePage (collection (with_sheet form i)) outcome
    form_page_lem =
        record {
          state = as_form form_recipe.0 y.state;
          other_state = y.state;
          yields = form_recipe.1;
          other_yields = y.has_recipe;
          above = page_same form_recipe.0 y.state;
        }

    form_own : OwnForm cx 1 first_state ps
    form_own = form_fixed cx ps (as_form form_recipe.0 y.state) (form_quiet cx trace) (sym form_collection ∙ form_recipe.1)

    form_again : form_bytes (with_sheet form i) ≡ form
    form_again =
        ap (λ (l : List Event). sheet_of (plain_events cx (trace_from cx 1 (going first_state) l))) form_events ∙ ap sheet_of form_own.same

    -- a form that is made of the form is asked the same
    same_asked : (x : List ℕ) → form_answer (with_sheet form i) 65536 x ≡ form_answer i 65536 x
    unfolding form_answer
    same_asked x = refl

    own_answer : plain_form (with_sheet form i) ≡ answered form
    own_answer =
        answer_by_recipe (with_sheet form i) (as_form form_recipe.0 y.state) form_recipe.1
        ∙ none_faults cx _ (subst (λ (l : List Event). NoFaults cx (trace_from cx 1 (going first_state) l)) (sym form_events)
        form_own.faultless)
        ∙ same_asked (form_bytes (with_sheet form i)) ∙ ap (form_answer i 65536) form_again ∙ within_form i form fits

  -- what holds of the form that the rules make holds of what is handed out
  of_form : (P : List ℕ → Type 0) → ((y : Yielding) → EveryLine (IsClear i.flags) es → is_within_limits form i ≡ true → P form)
      → (f : List ℕ) → plain_form i ≡ answered f → P f
  of_form P p f q =
      let d : Demanded i f = demanded f q in
      subst P (sym d.made)
      (p (accepted_yields d.accepted d.yields) d.clear (ap (λ (x : List ℕ). is_within_limits x i) (sym d.made) ∙ d.fits))

-- ---- the theorem

pub plain_form_holds : (i : Input) → PlainForm i
plain_form_holds i =
    record {
      exactly = λ f. record { forth = demanded i f; back = handed i f };
      otherwise = λ n l. record { forth = reasons i n l; back = declines i };
      plain = of_form i (λ f. EveryLine (IsPlain i.flags) (events_of (with_sheet f i))) (form_quiet_lines i);
      accepted = of_form i (λ f. is_accepted (collection (with_sheet f i)) ≡ true) (form_accepted i);
      same = of_form i (λ f. SamePage (collection (with_sheet f i)) (collection i)) (form_page_lem i);
      own = of_form i (λ f. plain_form (with_sheet f i) ≡ answered f) (own_answer i);
      lent = plain_lent i;
    }

-- beside it: a form keeps the sheet's `warning` lines, in order
pub warnings_kept : (i : Input) (form : List ℕ) → HandedOut i form
    → parser_lines (events_of (with_sheet form i)) ≡ parser_lines (events_of i)
warnings_kept i =
    of_form i (λ f. parser_lines (events_of (with_sheet f i)) ≡ parser_lines (events_of i)) (form_warnings i)
