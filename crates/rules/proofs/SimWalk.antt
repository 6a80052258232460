-- The walk over a sheet's events and the walk over its form's: the form yields the same recipe, or a limit stops it.
use Prim.Native.Nat.{ℕ, suc}
use mathlib.Core.Path.{◌≡◌, refl, sym, ap, ◌∙◌, subst}
use mathlib.Core.List.{List, [], ◌∷◌, ◌++◌, reverse_aux}
use mathlib.Core.Bool.{Bool, true, false}
use Rattle.std.specs.Prelude.{None}
use native.Mathlib.Omega.{arith}
use Rattle.rules.specs.Input.{Context}
use Rattle.rules.specs.Basic.{pick}
use Rattle.rules.specs.Words.{DefineMode}
use Rattle.rules.specs.Event.{Event}
use Rattle.rules.specs.Modes.{first_modes}
use Rattle.rules.specs.Finding.{Finding}
use Rattle.rules.specs.State.{Open, no_block, step_open, text_open, text_mode_open, State, first_state, set_kept, report, over_limits, Step, next, Walk, going, failed, refused, Outcome, recipe, refusal}
use Rattle.rules.specs.Metadata.{old_metadata}
use Rattle.rules.specs.Pass.{is_open, is_empty_section, close_section, is_error_event, settle, walk, ended, unless_over, finish, parse_events}
use Rattle.rules.specs.Page.{recipe_part}
use Rattle.rules.specs.Plain.{Traced, traced, plain_fault, plain_event, plain_events, trace_from}
use Rattle.rules.proofs.Basics.{pick_either, no_truth}
use Rattle.rules.proofs.Walks.{stays_refused, not_refused, not_failed, step_settles, step_fails, step_next}
use Rattle.rules.proofs.Sim.{form_open, as_form, Sim, stopped, skips, goes}
use Rattle.rules.proofs.Parts.{event_sim}

module _ (cx : Context) where
  -- 22 and 23 do not arise
  pub data NoFaults : List Traced → Type 0 where
    no_line : NoFaults []
    no_fault : {t : Traced} {ts : List Traced} → plain_fault cx t.state t.event ≡ None → NoFaults ts → NoFaults (t ∷ ts)

  -- the form's walk ends beside the sheet's, or a limit ends it
  pub data Ends (st : State) : Walk → Type 0 where
    beside : (fs : List Finding) → Ends st (going (as_form fs st))
    over : (l : ℕ) → Ends st (refused 17 l)

  abbrev trace : ℕ → Walk → List Event → List Traced
  trace line w es = trace_from cx line w es

  abbrev plain : ℕ → Walk → List Event → List Event
  plain line w es = plain_events cx (trace_from cx line w es)

  abbrev Follows : List Event → State → Type 0
  Follows es end =
      (line line' : ℕ) (st : State) (fs : List Finding) → walk cx line (going st) es ≡ going end → NoFaults (trace line (going st) es)
      → Ends end (walk cx line' (going (as_form fs st)) (plain line (going st) es))

  module _ (es : List Event) (end : State) (ih : Follows es end) (line line' : ℕ) where
    -- after the settling of the sheet's line
    settled : (now now' : State) (fs : List Finding) (b : Bool) → now' ≡ as_form fs now
        → walk cx (suc line) (pick b (refused 17 line) (going now)) es ≡ going end
        → NoFaults (trace (suc line) (pick b (refused 17 line) (going now)) es)
        → Ends end (walk cx line' (going now') (plain (suc line) (pick b (refused 17 line) (going now)) es))
    settled now now' fs true a q f = not_refused cx (suc line) 17 line es end q
    settled now now' fs false a q f = rw a (ih (suc line) line' now fs q f)

    -- after the settling of the form's line
    limited : (b : Bool) (w : Walk) (rest : List Event) → Ends end (walk cx (suc line') w rest)
        → Ends end (walk cx (suc line') (pick b (refused 17 line') w) rest)
    limited true w rest h = rw (stays_refused cx (suc line') 17 line' rest) (over line')
    limited false w rest h = h

  turn : (es : List Event) (end : State) → Follows es end → (line line' : ℕ) {now : State} {s : Step} {ps : List Event} → Sim cx now s ps
      → walk cx (suc line) (settle line s) es ≡ going end
      → NoFaults (trace (suc line) (settle line s) es)
      → Ends end (walk cx line' (going now) (ps ++ plain (suc line) (settle line s) es))
  unfolding settle walk
  turn es end ih line line' (stopped {n}) q f = not_refused cx (suc line) n line es end q
  turn es end ih line line' (skips {st} fs a) q f = settled es end ih line line' st _ fs (over_limits st) a q f
  turn es end ih line line' {now} (goes {st} {e} fs ne a) q f =
      subst (λ (w : Walk). Ends end (walk cx (suc line') w (plain (suc line) (settle line (next st)) es)))
      (sym (step_next cx line' e now (as_form fs st) ne a))
      (limited es end ih line line' (over_limits (as_form fs st)) (going (as_form fs st)) (plain (suc line) (settle line (next st)) es)
      (settled es end ih line (suc line') st _ fs (over_limits st) refl q f))

  pub walk_sim : (es : List Event) (end : State) → Follows es end
  unfolding walk trace_from plain_events traced
  walk_sim [] end line line' st fs q f = let h : st ≡ end = cc in rw h (beside fs)
  walk_sim (e ∷ es) end line line' st fs q (no_fault f0 f) = go (walk_sim es end) (is_error_event e) refl
    where
      go : Follows es end → (b : Bool) → is_error_event e ≡ b → Ends end (walk cx line' (going (as_form fs st)) (plain line (going st) (e ∷ es)))
      go ih true ne = not_failed cx (suc line) _ es end (rw (step_fails cx line e st ne) at q)
      go ih false ne =
          subst (λ (w : Walk). Ends end (walk cx line' (going (as_form fs st)) (plain_event cx st e ++ plain (suc line) w es)))
          (sym (step_settles cx line e st ne))
          (turn es end ih line line' (event_sim cx st fs e ne f0)
          (rw (step_settles cx line e st ne) at q) (rw (step_settles cx line e st ne) at f))

-- ---- the end

-- what the form's outcome is beside the sheet's recipe
pub data Same (st : State) : Outcome → Type 0 where
  yields : (fs : List Finding) → Same st (recipe (as_form fs st))
  limit : (l : ℕ) → Same st (refusal 17 l)

-- the page above the findings
pub page_same : (fs : List Finding) (st : State) → recipe_part (as_form fs st) ≡ recipe_part st
unfolding recipe_part
page_same fs st = refl

ended_form : (fs : List Finding) (st : State) (b : Bool) → is_empty_section st.place.section ≡ b
    → ended (as_form fs st) ≡ as_form (reverse_aux (old_metadata st.metadata.old) fs) (ended st)
unfolding ended close_section report set_kept first_modes
ended_form fs st true e = rw e
ended_form fs st false e = rw e

shut_form : (d : DefineMode) (o : Open) → is_open o ≡ false → is_open (form_open d o) ≡ false
unfolding is_open
shut_form d no_block q = refl
shut_form d (step_open is) q = no_truth (sym q)
shut_form d (text_open ts) q = no_truth (sym q)
shut_form d (text_mode_open ts) q = no_truth (sym q)

pub no_recipe_lem : {P : Type 0} {n l : ℕ} {st : State} → refusal n l ≡ recipe st → P
no_recipe_lem q = absurd (let z : ◌≡◌ {A = ℕ} 0 1 = cc in omega arith)

over_same : (st end : State) → unless_over end ≡ recipe st → end ≡ st
unfolding unless_over
over_same st end = pick_either (λ (o : Outcome). o ≡ recipe st → end ≡ st) (over_limits end) _ _ (λ b q. no_recipe_lem q) (λ b q. cc)

finish_form : (st end : State) (fs : List Finding) → finish (going end) ≡ recipe st → Same st (finish (going (as_form fs end)))
unfolding finish unless_over
finish_form st end fs =
    pick_either (λ (o : Outcome). o ≡ recipe st → Same st (finish (going (as_form fs end)))) (is_open end.place.block) _ _
    (λ b q. no_recipe_lem q)
    (λ b q. rw (shut_form end.modes.define end.place.block b)
    (last (ended_form fs end (is_empty_section end.place.section) refl ∙ ap (as_form _) (over_same st (ended end) q))))
  where
    last : {s : State} {gs : List Finding} → s ≡ as_form gs st → Same st (unless_over s)
    last {s} {gs} q = pick_either (Same st) (over_limits s) _ _ (λ b. limit 0) (λ b. rw q (yields gs))

module _ (cx : Context) where
  outcome_form : (st end : State) (w : Walk) → finish (going end) ≡ recipe st → Ends cx end w → Same st (finish w)
  unfolding finish
  outcome_form st end _ q (beside fs) = finish_form st end fs q
  outcome_form st end _ q (over l) = limit l

  -- a walk that ends in a recipe goes on to its end
  pub record Went (es : List Event) (st : State) : Type 0 where
    pub last : State
    pub there : walk cx 1 (going first_state) es ≡ going last
    pub done : finish (going last) ≡ recipe st

  pub went : (es : List Event) (st : State) → parse_events cx es ≡ recipe st → Went es st
  unfolding parse_events finish
  went es st q = go (walk cx 1 (going first_state) es) refl q
    where
      go : (w : Walk) → walk cx 1 (going first_state) es ≡ w → finish w ≡ recipe st → Went es st
      go (going end) p q = record { last = end; there = p; done = q }
      go (failed fs) p q = absurd (let z : ◌≡◌ {A = ℕ} 0 1 = cc in omega arith)
      go (refused n l) p q = no_recipe_lem q

  pub form_yields : (es : List Event) (st : State) → parse_events cx es ≡ recipe st
      → NoFaults cx (trace_from cx 1 (going first_state) es)
      → Same st (parse_events cx (plain_events cx (trace_from cx 1 (going first_state) es)))
  form_yields es st q f =
      let r : Went es st = went es st q in
      unfold parse_events in outcome_form st r.last _ r.done
      (subst (λ (x : State). Ends cx r.last
      (walk cx 1 (going x) (plain_events cx (trace_from cx 1 (going first_state) es)))) (sym start)
      (walk_sim cx es r.last 1 1 first_state [] r.there f))
    where
      start : first_state ≡ as_form [] first_state
      start = unfold first_state first_modes in refl
