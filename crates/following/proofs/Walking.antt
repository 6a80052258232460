-- A second walk over a sheet that the pass accepted: no line is refused, none is an `error`, and counts stay small.
use Prim.Native.Nat.{ℕ, suc, ◌+◌, ◌≤◌}
use mathlib.Core.Path.{◌≡◌, refl, sym, ap, ◌∙◌, subst}
use mathlib.Core.List.{List, [], ◌∷◌}
use mathlib.Core.Bool.{Bool, true, false, ◌||◌}
use native.Mathlib.Omega.{arith}
use native.Mathlib.Numerals.{add-one}
use lib.Dec.{ltb}
use borrow.Author.Tests.{ltb-false}
use lib.ListN.{length}
use Rattle.rules.specs.Input.{Context}
use Rattle.rules.specs.Basic.{pick, is_some}
use Rattle.rules.specs.Event.{Event, meta_event, section_event, start_event, end_event, text_event, component_event, ComponentEvent, ingredient_event, cookware_event, timer_event, between, inside, parser_event}
use Rattle.rules.specs.Modes.{is_components}
use Rattle.rules.specs.State.{State, first_state, over_limits, next, Walk, going, refused, failed, recipe, refusal}
use Rattle.rules.specs.Pass.{is_open, on_event, walk, ended, unless_over, finish, parse_events}
use Rattle.rules.proofs.Basics.{pick_either, or_left, or_right}
use Rattle.rules.proofs.Walks.{no_walk, step_next}
use Rattle.rules.proofs.FaultWalk.{Takes, takes, walk_on}
use Rattle.model.specs.declared.Open.{Open}
use Rattle.model.specs.declared.Open.TheVariants as block
use Rattle.following.specs.declared.Follow.{Follow}
use Rattle.following.specs.declared.Meta.{Meta}
use Rattle.following.specs.declared.Meta.TheVariants.{Defines, Ordinary, Other}
use Rattle.following.specs.Drawn.{follow_of, first_follow, opens_as}
use Rattle.following.specs.Follow.{Follows, meta_of, meta_follow, section_follow, start_follow, close_follow, counter_after, count_component, component_follow, inside_follow, between_follow, next_follow, with_inline, Room, Counts}
use Rattle.following.proofs.Betweens.{line_grows}
use Rattle.following.proofs.Laws.{follows_first}
use Rattle.sheet.specs.Words.{define_of}

-- ---- counts: at most one more a line

pub counts_more : {n : ℕ} {f : Follow} → Counts n f → Counts (suc n) f
counts_more h = record { counter = omega arith; ingredients = omega arith; cookware = omega arith; timers = omega arith }

meta_counts : (m : Meta) {n : ℕ} (f : Follow) → Counts n f → Counts (suc n) (meta_follow m f)
unfolding meta_follow
meta_counts (Defines d) f h = record { counter = omega arith; ingredients = omega arith; cookware = omega arith; timers = omega arith }
meta_counts Ordinary f h = record { counter = omega arith; ingredients = omega arith; cookware = omega arith; timers = omega arith }
meta_counts Other f h = counts_more h

counter_most : (b : Open) {n : ℕ} (f : Follow) → f.counter ≤ n → counter_after b f ≤ suc n
unfolding counter_after
counter_most block.Nothing f h = omega arith
counter_most block.Step {n} f h = pick_either (λ (x : ℕ). x ≤ suc n) (is_components (define_of f.define)) _ _ (λ b. omega arith) (λ b. omega arith)
counter_most block.Text f h = omega arith
counter_most block.TextMode f h = omega arith

close_counts : (x : ℕ) {n : ℕ} (f : Follow) → x ≤ suc n → Counts n f → Counts (suc n) (close_follow x f)
unfolding close_follow
close_counts x f q h = record { counter = q; ingredients = omega arith; cookware = omega arith; timers = omega arith }

count_counts : (c : ComponentEvent) {n : ℕ} (f : Follow) → Counts n f → Counts (suc n) (count_component c f)
unfolding count_component
count_counts (ingredient_event c i) f h = record { counter = omega arith; ingredients = omega arith; cookware = omega arith; timers = omega arith }
count_counts (cookware_event c) f h = record { counter = omega arith; ingredients = omega arith; cookware = omega arith; timers = omega arith }
count_counts (timer_event s a q) f h = record { counter = omega arith; ingredients = omega arith; cookware = omega arith; timers = omega arith }

component_counts : (c : ComponentEvent) (b : Open) {n : ℕ} (f : Follow) → Counts n f → Counts (suc n) (component_follow c b f)
unfolding component_follow
component_counts c block.Nothing f h = counts_more h
component_counts c block.Step f h = count_counts c f h
component_counts c block.Text f h = counts_more h
component_counts c block.TextMode f h = counts_more h

start_counts : (b : Open) {n : ℕ} (f : Follow) → Counts n f → Counts (suc n) (start_follow b f)
unfolding start_follow
start_counts b f h = record { counter = omega arith; ingredients = omega arith; cookware = omega arith; timers = omega arith }

section_counts : (b : Bool) {n : ℕ} (f : Follow) → Counts n f → Counts (suc n) (section_follow b f)
unfolding section_follow
section_counts b f h = record { counter = omega arith; ingredients = omega arith; cookware = omega arith; timers = omega arith }

pub next_counts : (flags : ℕ) (e : Event) {n : ℕ} (f : Follow) → Counts n f → Counts (suc n) (next_follow flags e f)
unfolding next_follow between_follow inside_follow
next_counts flags (between (meta_event k v)) f h = meta_counts (meta_of flags k v) f h
next_counts flags (between (section_event x)) f h = section_counts (is_some x) f h
next_counts flags (between (start_event k)) f h = start_counts (opens_as f.define k) f h
next_counts flags (inside (end_event k)) f h = close_counts (counter_after f.block f) f (counter_most f.block f h.counter) h
next_counts flags (inside (text_event t)) f h = counts_more h
next_counts flags (inside (component_event c)) f h = component_counts c f.block f h
next_counts flags (parser_event s x) f h = counts_more h

inline_counts : (x : ℕ) {n : ℕ} {f : Follow} → Counts n f → Counts n (with_inline x f)
unfolding with_inline
inline_counts x h = record { counter = h.counter; ingredients = h.ingredients; cookware = h.cookware; timers = h.timers }

-- ---- limits

inline_most : (st : State) → over_limits st ≡ false → length st.tables.inline ≤ 512
unfolding over_limits
inline_most st q = ltb-false 512 (length st.tables.inline) (or_right before (ltb 512 (length st.tables.inline)) (or_left (before || ltb 512 (length st.tables.inline)) (ltb 1024 (length st.findings)) q))
  where
    before : Bool
    before =
        ltb 512 (length st.tables.ingredients) || ltb 256 (length st.tables.cookware) || ltb 256 (length st.tables.timers)
        || ltb 128 (length st.kept.sections) || ltb 1024 st.kept.blocks || ltb 4096 st.kept.items

over_yes : (st : State) → over_limits st ≡ true → unless_over st ≡ refusal 17 0
unfolding unless_over
over_yes st q = rw q

over_no : (st : State) → over_limits st ≡ false → unless_over st ≡ recipe st
unfolding unless_over
over_no st q = rw q

first_counts : Counts 1 first_follow
unfolding first_follow
first_counts = record { counter = omega arith; ingredients = omega arith; cookware = omega arith; timers = omega arith }

-- ---- the walk

module _ (cx : Context) where
  -- the walk stands at the line `number` in the state st, has the events es before it, and goes on to the end
  pub record Walking (number : ℕ) (st final : State) (es : List Event) : Type 0 where
    pub goes : walk cx number (going st) es ≡ going final
    pub counts : Counts number (follow_of st)
    pub inline : length st.tables.inline ≤ 512

  -- one line on
  pub record Went (number : ℕ) (e : Event) (st final : State) (es : List Event) : Type 0 where
    pub after : State
    pub event : on_event cx e st ≡ next after
    pub then : Walking (number + 1) after final es

  limit_kept : (b : Bool) (number : ℕ) (after : State) → pick b (refused 17 number) (going after) ≡ going after → b ≡ false
  limit_kept true number after q = no_walk q
  limit_kept false number after q = refl

  pub walking_next : {number : ℕ} {st final : State} {e : Event} {es : List Event} → Walking number st final (e ∷ es) → Went number e st final es
  walking_next {number} {st} {final} {e} {es} w =
      record {
        after = t.after;
        event = t.event;
        then =
            record {
              goes = rw (add-one number) (walk_on cx number e es st final t w.goes);
              counts = rw (add-one number) (subst (Counts (suc number)) (sym (line_grows cx e st t.after t.event).follow) (inline_counts (length t.after.tables.inline) (next_counts cx.flags e (follow_of st) w.counts)));
              inline = inline_most t.after (limit_kept (over_limits t.after) number t.after (sym (step_next cx number e st t.after t.no_error t.event) ∙ t.steps));
            };
      }
    where
      t : Takes cx number e st
      t = takes cx number e es st final w.goes

  pub walking_ends : {number : ℕ} {st final : State} → Walking number st final [] → st ≡ final
  unfolding walk
  walking_ends w = let q = w.goes in cc

  pub walking_first : {final : State} {es : List Event} → walk cx 1 (going first_state) es ≡ going final → Walking 1 first_state final es
  unfolding first_state
  walking_first q = record { goes = q; counts = subst (Counts 1) follows_first.is first_counts; inline = omega arith }

  -- the small state has room for one line more
  pub walking_room : {number : ℕ} {st final : State} {es : List Event} {f : Follow} → Walking number st final es → Follows st f → number ≤ 100000 → Room f
  unfolding follow_of
  walking_room w g h =
      let c = subst (Counts _) (sym g.is) w.counts in
      let i = ap (λ (x : Follow). x.inline) g.is in
      record { counter = omega (arith, c.counter); ingredients = omega (arith, c.ingredients); cookware = omega (arith, c.cookware); timers = omega (arith, c.timers); inline = omega (arith, i, w.inline) }

  -- ---- the end

  -- a pass that yields the recipe s
  pub record Accepted (es : List Event) (s : State) : Type 0 where
    pub final : State
    pub goes : walk cx 1 (going first_state) es ≡ going final
    pub shut : is_open final.place.block ≡ false
    pub is : s ≡ ended final

  finished : (es : List Event) (s : State) (w : Walk) → walk cx 1 (going first_state) es ≡ w → finish w ≡ recipe s → Accepted es s
  unfolding finish
  finished es s (going final) e q = ends (is_open final.place.block) refl (over_limits (ended final)) refl q
    where
      ends : (b : Bool) → is_open final.place.block ≡ b → (c : Bool) → over_limits (ended final) ≡ c → pick b (refusal 19 0) (unless_over (ended final)) ≡ recipe s → Accepted es s
      ends true x c y z = absurd (let u : ◌≡◌ {A = ℕ} 0 1 = cc in omega arith)
      ends false x true y z = let v : refusal 17 0 ≡ recipe s = sym (over_yes (ended final) y) ∙ z in absurd (let u : ◌≡◌ {A = ℕ} 0 1 = cc in omega arith)
      ends false x false y z = let v : recipe (ended final) ≡ recipe s = sym (over_no (ended final) y) ∙ z in record { final = final; goes = e; shut = x; is = cc }
  finished es s (failed fs) e q = absurd (let u : ◌≡◌ {A = ℕ} 0 1 = cc in omega arith)
  finished es s (refused n l) e q = absurd (let u : ◌≡◌ {A = ℕ} 0 1 = cc in omega arith)

  pub accepted : (es : List Event) (s : State) → parse_events cx es ≡ recipe s → Accepted es s
  unfolding parse_events
  accepted es s q = finished es s (walk cx 1 (going first_state) es) refl q
