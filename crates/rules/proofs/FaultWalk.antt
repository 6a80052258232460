-- Over a whole walk: the first fault, or none.
use Prim.Native.Nat.{ℕ, suc, ◌+◌}
use mathlib.Core.Path.{◌≡◌, refl, sym, ap, ◌∙◌, subst}
use mathlib.Core.List.{List, [], ◌∷◌, ◌++◌, reverse, reverse_aux}
use mathlib.Core.Bool.{Bool, true, false}
use Rattle.std.specs.Prelude.{Option, None, Some}
use native.Mathlib.Omega.{arith}
use lib.ListN.{length}
use Rattle.rules.specs.Input.{Context}
use Rattle.rules.specs.Basic.{pick, any}
use Rattle.rules.specs.Event.{Event}
use Rattle.rules.specs.State.{State, first_state, over_limits, Step, next, stop, Walk, going, refused}
use Rattle.rules.specs.Pass.{is_error_event, on_event, step, walk}
use Rattle.rules.specs.Plain.{Traced, traced, plain_fault, trace_from}
use Rattle.rules.specs.Answer.{Answer, declined, fault_or, unless_faulty}
use Rattle.rules.specs.PlainForm.{EveryLine, IsClear, Faulty}
use Rattle.rules.proofs.Walks.{not_refused, not_failed, step_fails, step_next, step_stops}
use Rattle.rules.proofs.SimWalk.{NoFaults, no_line, no_fault}
use Rattle.rules.proofs.Known.{Knows, KnowsStep, first_knows}
use Rattle.rules.proofs.Faults.{LineFault, clear, faulty, event_knows, fault_means, no_both, one_fault}

-- ---- "for every line", step by step

pub data Every (P : List Event → Event → Type 0) : List Event → List Event → Type 0 where
  every_none : {earlier : List Event} → Every P earlier []
  every_more : {earlier : List Event} {e : Event} {es : List Event} → P earlier e → Every P (e ∷ earlier) es → Every P earlier (e ∷ es)

module _ (P : List Event → Event → Type 0) where
  every_at : (earlier before : List Event) (e : Event) (rest : List Event) → Every P earlier (before ++ (e ∷ rest)) → P (reverse_aux before earlier) e
  every_at earlier [] e rest (every_more p h) = p
  every_at earlier (x ∷ before) e rest (every_more p h) = every_at (x ∷ earlier) before e rest h

  pub every_lines : (es : List Event) → Every P [] es → EveryLine P es
  every_lines es h before rest e q = every_at [] before e rest (subst (Every P []) q h)

  lines_from : (earlier es : List Event) → ((before rest : List Event) (e : Event) → es ≡ before ++ (e ∷ rest) → P (reverse_aux before earlier) e)
      → Every P earlier es
  lines_from earlier [] f = every_none
  lines_from earlier (e ∷ es) f =
      every_more (f [] es e refl) (lines_from (e ∷ earlier) es (λ before rest x q. f (e ∷ before) rest x (ap (λ (l : List Event). e ∷ l) q)))

  pub lines_every : (es : List Event) → EveryLine P es → Every P [] es
  lines_every es f = lines_from [] es f

-- ---- a walk that goes on to its end

module _ (cx : Context) where
  -- a line of such a walk
  pub record Takes (line : ℕ) (e : Event) (st : State) : Type 0 where
    pub after : State
    pub no_error : is_error_event e ≡ false
    pub event : on_event cx e st ≡ next after
    pub steps : step cx line e (going st) ≡ going after

  pub takes : (line : ℕ) (e : Event) (es : List Event) (st end : State) → walk cx line (going st) (e ∷ es) ≡ going end → Takes line e st
  unfolding walk
  takes line e es st end w = go (is_error_event e) refl (on_event cx e st) refl
    where
      go : (b : Bool) → is_error_event e ≡ b → (s : Step) → on_event cx e st ≡ s → Takes line e st
      go true ne s a = not_failed cx (suc line) _ es end (rw (step_fails cx line e st ne) at w)
      go false ne (stop x) a = not_refused cx (suc line) x line es end (rw (step_stops cx line x e st ne a) at w)
      go false ne (next now) a = on (over_limits now) (step_next cx line e st now ne a)
        where
          on : (b : Bool) → step cx line e (going st) ≡ pick b (refused 17 line) (going now) → Takes line e st
          on true g = not_refused cx (suc line) 17 line es end (rw g at w)
          on false g = record { after = now; no_error = ne; event = a; steps = g }

  pub walk_on : (line : ℕ) (e : Event) (es : List Event) (st end : State) (t : Takes line e st) → walk cx line (going st) (e ∷ es) ≡ going end
      → walk cx (suc line) (going t.after) es ≡ going end
  unfolding walk
  walk_on line e es st end t w = ap (λ (x : Walk). walk cx (suc line) x es) (sym t.steps) ∙ w

  pub next_knows : (earlier : List Event) (line : ℕ) (e : Event) (st : State) → Knows cx.flags earlier st → (t : Takes line e st) → Knows cx.flags (e ∷ earlier) t.after
  next_knows earlier line e st h t = subst (KnowsStep cx.flags (e ∷ earlier)) t.event (event_knows cx earlier st h e)

  -- in every state that the pass reaches, what it knows is what the lines say
  walk_knows : (es earlier : List Event) (line : ℕ) (st end : State) → walk cx line (going st) es ≡ going end → Knows cx.flags earlier st
      → Knows cx.flags (reverse_aux es earlier) end
  walk_knows [] earlier line st end w h = let q : st ≡ end = unfold walk in cc in subst (Knows cx.flags earlier) q h
  walk_knows (e ∷ es) earlier line st end w h =
      let t : Takes line e st = takes line e es st end w in
      walk_knows es (e ∷ earlier) (suc line) t.after end (walk_on line e es st end t w) (next_knows earlier line e st h t)

  pub pass_knows : (es : List Event) (st : State) → walk cx 1 (going first_state) es ≡ going st → Knows cx.flags (reverse es) st
  pass_knows es st w = walk_knows es [] 1 first_state st w (first_knows cx.flags)

  pub trace_on : (line : ℕ) (e : Event) (es : List Event) (st : State) (t : Takes line e st)
      → trace_from cx line (going st) (e ∷ es) ≡ record { line = line; state = st; event = e } ∷ trace_from cx (suc line)
      (going t.after) es
  unfolding trace_from traced
  trace_on line e es st t = rw t.steps

  -- no error line
  pub walk_no_error : (es : List Event) (line : ℕ) (st end : State) → walk cx line (going st) es ≡ going end → any is_error_event es ≡ false
  unfolding any
  walk_no_error [] line st end w = refl
  walk_no_error (e ∷ es) line st end w =
      let t : Takes line e st = takes line e es st end w in
      let q : any is_error_event es ≡ false = walk_no_error es (suc line) t.after end (walk_on line e es st end t w) in
      rw (t.no_error, q)

  abbrev Clear : List Event → List Event → Type 0
  Clear earlier es = Every (IsClear cx.flags) earlier es

  abbrev trace : ℕ → State → List Event → List Traced
  trace line st es = trace_from cx line (going st) es

  -- lines that are all clear have no fault
  pub clear_trace : (es earlier : List Event) (line : ℕ) (st end : State) → walk cx line (going st) es ≡ going end → Knows cx.flags earlier st
      → Clear earlier es
      → NoFaults cx (trace line st es)
  clear_trace [] earlier line st end w h c = unfold trace_from in no_line
  clear_trace (e ∷ es) earlier line st end w h (every_more p c) =
      by (clear_trace es (e ∷ earlier) (suc line) t.after end (walk_on line e es st end t w) (next_knows earlier line e st h t) c)
      (plain_fault cx st e) refl (fault_means cx earlier st h e t.after t.event)
    where
      t : Takes line e st
      t = takes line e es st end w

      by : NoFaults cx (trace (suc line) t.after es) → (o : Option ℕ) → plain_fault cx st e ≡ o → LineFault cx.flags earlier e o
          → NoFaults cx (trace line st (e ∷ es))
      by ih None q (clear x) = subst (NoFaults cx) (sym (trace_on line e es st t)) (no_fault q ih)
      by ih (Some n) q (faulty x) = no_both p x

  module _ (whole : Answer) where
    unless_on : (line : ℕ) (e : Event) (es : List Event) (st : State) (t : Takes line e st)
        → unless_faulty cx whole (trace line st (e ∷ es)) ≡ fault_or line (plain_fault cx st e)
        (unless_faulty cx whole (trace (suc line) t.after es))
    unfolding unless_faulty
    unless_on line e es st t = ap (unless_faulty cx whole) (trace_on line e es st t)

    -- what the faults of a walk come to
    pub data Found (earlier : List Event) (line : ℕ) (es : List Event) : Answer → Type 0 where
      all_clear : Clear earlier es → Found earlier line es whole
      first_at : {n : ℕ} (before rest : List Event) (e : Event) → es ≡ before ++ (e ∷ rest) → Clear earlier before → Faulty cx.flags (reverse_aux before earlier) e n
          → Found earlier line es (declined n (line + length before))

    found_later : (earlier : List Event) (line : ℕ) (e : Event) (es : List Event) → IsClear cx.flags earlier e → {a : Answer} → Found (e ∷ earlier) (suc line) es a
        → Found earlier line (e ∷ es) a
    found_later earlier line e es p (all_clear c) = all_clear (every_more p c)
    found_later earlier line e es p (first_at {n} before rest x q c f) =
        let z : suc line + length before ≡ line + length (e ∷ before) = omega arith in
        subst (λ (k : ℕ). Found earlier line (e ∷ es) (declined n k)) (sym z) (first_at (e ∷ before) rest x (ap (λ (l : List Event). e ∷ l) q) (every_more p c) f)

    pub faults_found : (es earlier : List Event) (line : ℕ) (st end : State) → walk cx line (going st) es ≡ going end → Knows cx.flags earlier st
        → Found earlier line es (unless_faulty cx whole (trace line st es))
    unfolding fault_or trace_from unless_faulty
    faults_found [] earlier line st end w h = all_clear every_none
    faults_found (e ∷ es) earlier line st end w h =
        subst (Found earlier line (e ∷ es)) (sym (unless_on line e es st t))
        (by (faults_found es (e ∷ earlier) (suc line) t.after end (walk_on line e es st end t w) (next_knows earlier line e st h t))
        (plain_fault cx st e) (fault_means cx earlier st h e t.after t.event))
      where
        t : Takes line e st
        t = takes line e es st end w

        by : Found (e ∷ earlier) (suc line) es (unless_faulty cx whole (trace (suc line) t.after es)) → (o : Option ℕ) → LineFault cx.flags earlier e o
            → Found earlier line (e ∷ es) (fault_or line o (unless_faulty cx whole (trace (suc line) t.after es)))
        by ih None (clear x) = found_later earlier line e es x ih
        by ih (Some n) (faulty x) =
            let z : line + length {A = Event} [] ≡ line = omega arith in
            subst (λ (k : ℕ). Found earlier line (e ∷ es) (declined n k)) z (first_at [] es e refl every_none x)

    -- and back: the first line with a fault is the one that is named
    pub fault_at : (before earlier : List Event) (line n : ℕ) (e : Event) (rest : List Event) (st end : State)
        → walk cx line (going st) (before ++ (e ∷ rest)) ≡ going end
        → Knows cx.flags earlier st → Clear earlier before → Faulty cx.flags (reverse_aux before earlier) e n
        → unless_faulty cx whole (trace line st (before ++ (e ∷ rest))) ≡ declined n (line + length before)
    fault_at [] earlier line n e rest st end w h c f = unless_on line e rest st t
        ∙ by (plain_fault cx st e) (fault_means cx earlier st h e t.after t.event)
      where
        t : Takes line e st
        t = takes line e rest st end w

        z : line + length {A = Event} [] ≡ line
        z = omega arith

        by : (o : Option ℕ) → LineFault cx.flags earlier e o
            → fault_or line o (unless_faulty cx whole (trace (suc line) t.after rest)) ≡ declined n (line + length {A = Event} [])
        by None (clear x) = no_both x f
        by (Some m) (faulty x) = unfold fault_or in (ap (λ (k : ℕ). declined k line) (one_fault x f) ∙ ap (declined n) (sym z))
    fault_at (x ∷ before) earlier line n e rest st end w h (every_more p c) f =
        unless_on line x (before ++ (e ∷ rest)) st t
        ∙ by (fault_at before (x ∷ earlier) (suc line) n e rest t.after end (walk_on line x (before ++ (e ∷ rest)) st end t w)
        (next_knows earlier line x st h t) c f)
        (plain_fault cx st x) (fault_means cx earlier st h x t.after t.event)
      where
        t : Takes line x st
        t = takes line x (before ++ (e ∷ rest)) st end w

        z : suc line + length before ≡ line + length (x ∷ before)
        z = omega arith

        by : unless_faulty cx whole (trace (suc line) t.after (before ++ (e ∷ rest))) ≡ declined n (suc line + length before) → (o : Option ℕ)
            → LineFault cx.flags earlier x o
            → fault_or line o (unless_faulty cx whole (trace (suc line) t.after (before ++ (e ∷ rest)))) ≡ declined n (line + length (x ∷ before))
        by ih None (clear y) = unfold fault_or in (ih ∙ ap (declined n) z)
        by ih (Some m) (faulty y) = no_both p y
