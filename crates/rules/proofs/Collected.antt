-- A collection that is accepted: what it has passed, and where its first `error` line is.
use Prim.Native.Nat.{ℕ, suc, ◌+◌}
use mathlib.Core.Path.{◌≡◌, refl, sym, ap, ◌∙◌}
use mathlib.Core.List.{List, [], ◌∷◌, ◌++◌}
use mathlib.Core.Bool.{Bool, true, false}
use native.Mathlib.Omega.{arith}
use lib.ListN.{length}
use Rattle.rules.specs.Input.{Context}
use Rattle.rules.specs.Basic.{pick, any}
use Rattle.rules.specs.Event.{Event}
use Rattle.rules.specs.Finding.{Finding}
use Rattle.rules.specs.State.{State, first_state, over_limits, Step, next, stop, Walk, going, failed, refused, Outcome, recipe, no_recipe}
use Rattle.rules.specs.Pass.{is_open, is_error_event, on_event, step, walk, ended, unless_over, finish, parse_events}
use Rattle.rules.specs.Answer.{error_line}
use Rattle.rules.specs.Demand.{yields_recipe}
use Rattle.rules.proofs.Basics.{pick_either, no_truth}
use Rattle.rules.proofs.Walks.{stays_refused, step_next, step_stops}
use Rattle.rules.proofs.SimWalk.{Went, went}
use Rattle.rules.proofs.FaultWalk.{walk_no_error}

-- ---- `error` lines

module _ (cx : Context) where
  no_failed : {P : Type 0} {n l : ℕ} {fs : List Finding} → refused n l ≡ failed fs → P
  no_failed q = absurd (let z : ◌≡◌ {A = ℕ} 0 1 = cc in omega arith)

  refused_fails : {P : Type 0} (line n l : ℕ) (es : List Event) (fs : List Finding) → walk cx line (refused n l) es ≡ failed fs → P
  refused_fails line n l es fs q = no_failed (sym (stays_refused cx line n l es) ∙ q)

  -- a walk that fails has met one
  failed_error : (es : List Event) (line : ℕ) (st : State) (fs : List Finding) → walk cx line (going st) es ≡ failed fs → any is_error_event es ≡ true
  unfolding walk any
  failed_error [] line st fs w = absurd (let z : ◌≡◌ {A = ℕ} 0 1 = cc in omega arith)
  failed_error (e ∷ es) line st fs w = go (λ x q. failed_error es (suc line) x fs q) (is_error_event e) refl (on_event cx e st) refl
    where
      go : ((x : State) → walk cx (suc line) (going x) es ≡ failed fs → any is_error_event es ≡ true)
          → (b : Bool) → is_error_event e ≡ b → (s : Step) → on_event cx e st ≡ s → any is_error_event (e ∷ es) ≡ true
      go ih true ne s a = rw ne
      go ih false ne (stop x) a = refused_fails (suc line) x line es fs (rw (step_stops cx line x e st ne a) at w)
      go ih false ne (next now) a = on (over_limits now) (step_next cx line e st now ne a)
        where
          on : (b : Bool) → step cx line e (going st) ≡ pick b (refused 17 line) (going now) → any is_error_event (e ∷ es) ≡ true
          on true g = refused_fails (suc line) 17 line es fs (rw g at w)
          on false g = rw (ne, ih now (rw g at w))

  pub recipe_yields : (es : List Event) (st : State) → parse_events cx es ≡ recipe st → yields_recipe es ≡ true
  unfolding yields_recipe
  recipe_yields es st q =
      let r : Went cx es st = went cx es st q in
      let z : any is_error_event es ≡ false = walk_no_error cx es 1 first_state r.last r.there in
      rw z

  pub failed_yields : (es : List Event) (fs : List Finding) → parse_events cx es ≡ no_recipe fs → any is_error_event es ≡ true
  unfolding parse_events finish
  failed_yields es fs q = go (walk cx 1 (going first_state) es) refl q
    where
      over : (s : State) → unless_over s ≡ no_recipe fs → any is_error_event es ≡ true
      over s = unfold unless_over in
          pick_either (λ (o : Outcome). o ≡ no_recipe fs → any is_error_event es ≡ true) (over_limits s) _ _
          (λ b p. absurd (let z : ◌≡◌ {A = ℕ} 0 1 = cc in omega arith)) (λ b p. absurd (let z : ◌≡◌ {A = ℕ} 0 1 = cc in omega arith))

      go : (w : Walk) → walk cx 1 (going first_state) es ≡ w → finish w ≡ no_recipe fs → any is_error_event es ≡ true
      go (going end) p q =
          pick_either (λ (o : Outcome). o ≡ no_recipe fs → any is_error_event es ≡ true) (is_open end.place.block) _ _
          (λ b r. absurd (let z : ◌≡◌ {A = ℕ} 0 1 = cc in omega arith)) (λ b r. over (ended end) r) q
      go (failed gs) p q = failed_error es 1 first_state gs p
      go (refused n l) p q = absurd (let z : ◌≡◌ {A = ℕ} 0 1 = cc in omega arith)

-- the first `error` line
pub record FirstError (line : ℕ) (es : List Event) : Type 0 where
  pub before : List Event
  pub rest : List Event
  pub error : Event
  pub is : es ≡ before ++ (error ∷ rest)
  pub none_before : yields_recipe before ≡ true
  pub is_error_lem : is_error_event error ≡ true
  pub at_line_lem : error_line line es ≡ line + length before

pub first_error : (es : List Event) (line : ℕ) → any is_error_event es ≡ true → FirstError line es
unfolding any error_line
first_error [] line q = no_truth q
first_error (e ∷ es) line q = go (first_error es (suc line)) (is_error_event e) refl
  where
    go : (any is_error_event es ≡ true → FirstError (suc line) es) → (b : Bool) → is_error_event e ≡ b → FirstError line (e ∷ es)
    go ih true p =
        let z : line ≡ line + length {A = Event} [] = omega arith in
        record { before = []; rest = es; error = e; is = refl; none_before = unfold yields_recipe in refl; is_error_lem = p; at_line_lem = rw p z }
    go ih false p =
        let r : FirstError (suc line) es = ih (rw p at q) in
        let z : suc line + length r.before ≡ line + length (e ∷ r.before) = omega arith in
        let n : yields_recipe (e ∷ r.before) ≡ true = unfold yields_recipe in rw p (unfold yields_recipe in r.none_before) in
        record {
          before = e ∷ r.before;
          rest = r.rest;
          error = r.error;
          is = ap (λ (l : List Event). e ∷ l) r.is;
          none_before = n;
          is_error_lem = r.is_error_lem;
          at_line_lem = rw p (r.at_line_lem ∙ z);
        }

-- where an `error` line is the first, it is that one
pub error_at : (before rest : List Event) (e : Event) (line : ℕ) → yields_recipe before ≡ true → is_error_event e ≡ true
    → (error_line line (before ++ (e ∷ rest)) ≡ line + length before) × (yields_recipe (before ++ (e ∷ rest)) ≡ false)
unfolding error_line yields_recipe any
error_at [] rest e line n q = let z : line ≡ line + length {A = Event} [] = omega arith in (rw q z, rw q)
error_at (x ∷ before) rest e line n q = go (error_at before rest e (suc line)) (is_error_event x) refl
  where
    go : (yields_recipe before ≡ true → is_error_event e ≡ true
        → (error_line (suc line) (before ++ (e ∷ rest)) ≡ suc line + length before) × (yields_recipe (before ++ (e ∷ rest)) ≡ false))
        → (b : Bool) → is_error_event x ≡ b → (error_line line (x ∷ (before ++ (e ∷ rest))) ≡ line + length (x ∷ before)) ×
        (yields_recipe (x ∷ (before ++ (e ∷ rest))) ≡ false)
    go ih true p = no_truth (rw p at n)
    go ih false p =
        let r = ih (rw p at n) q in
        let z : suc line + length before ≡ line + length (x ∷ before) = omega arith in
        (rw p (r.0 ∙ z), rw p r.1)
