-- A form is its own form: the plain events of a quiet list that yields a recipe are itself, and no fault arises.
use Prim.Native.Nat.{ℕ, suc}
use mathlib.Core.Path.{◌≡◌, refl, sym, ap, ◌∙◌, subst}
use mathlib.Core.List.{List, [], ◌∷◌}
use mathlib.Core.Bool.{Bool, true, false, ◌&&◌}
use Rattle.std.specs.Prelude.{Option, None, Some}
use Rattle.rules.specs.Input.{Context}
use Rattle.rules.specs.Basic.{pick}
use Rattle.rules.specs.Words.{step_kind, text_kind, DefineMode, mode_all, duplicate_new}
use Rattle.rules.specs.Event.{Component, Intermediate, ComponentEvent, ingredient_event, cookware_event, timer_event, Between, meta_event, section_event, start_event, Inside, end_event, text_event, component_event, Event, between, inside, parser_event}
use Rattle.rules.specs.Modes.{first_modes, is_components, is_steps, is_text, is_reference, has_modes, key_text, key_of}
use Rattle.rules.specs.Finding.{Finding}
use Rattle.rules.specs.Model.{Kind, ingredient, cookware, Entry, Section, entry_with, entry_of}
use Rattle.rules.specs.Reference.{Earlier, is_explicit, treat_as_reference, refers_to}
use Rattle.rules.specs.State.{Open, no_block, step_open, text_open, text_mode_open, Metadata, Tables, Kept, State, first_state, table_of, over_limits, Step, next, stop, going, refused, recipe}
use Rattle.rules.specs.Components.{new_entry, found_same, made_with, made_by_name, made_intermediate, make_ingredient, make_cookware}
use Rattle.rules.specs.Pass.{is_error_event, on_event, step, walk, parse_events}
use Rattle.rules.specs.Plain.{traced, implicit_of, marked_if, implicit_fault, unless_listed, implicit_ingredient, implicit_cookware, marked_component, in_plain_step, mark_fault, component_fault, plain_fault, is_mode_key, plain_between, plain_inside, plain_event, plain_events, trace_from}
use Rattle.rules.specs.Demand.{is_heeded}
use Rattle.rules.proofs.Basics.{pick_either, no_truth}
use Rattle.rules.proofs.Walks.{not_refused, not_failed, step_fails, step_next, step_stops}
use Rattle.rules.proofs.Sim.{form_open, as_form, made, Sim, goes}
use Rattle.rules.proofs.Parts.{event_sim}
use Rattle.rules.proofs.SimWalk.{NoFaults, no_line, no_fault, Went, went}
use Rattle.rules.proofs.Quiet.{Quiet, quiet_none, quiet_more, meta_heeded}

-- in the first modes what has no REF refers to nothing
no_reference : (e : Entry) (same : Option Earlier) → e.modifiers.ref ≡ false → refers_to first_modes e same ≡ None
unfolding refers_to treat_as_reference is_explicit first_modes is_steps is_reference
no_reference e same q = pick_either (λ (o : Option Earlier). o ≡ None) e.modifiers.new _ _ (λ b. refl) (λ b. rw q)

abbrev is_text_mode : Open → Bool
is_text_mode no_block = false
is_text_mode (step_open is) = false
is_text_mode (text_open ts) = false
is_text_mode (text_mode_open ts) = true

form_no_text : (d : DefineMode) (o : Open) → is_text_mode (form_open d o) ≡ false
form_no_text d no_block = refl
form_no_text d (step_open is) = pick_either (λ (x : Open). is_text_mode x ≡ false) (is_components d) _ _ (λ b. refl) (λ b. refl)
form_no_text d (text_open ts) = refl
form_no_text d (text_mode_open ts) = refl

module _ (cx : Context) where
  module _ (md : Metadata) (s : Section) (n : ℕ) (k : Kept) (t : Tables) (fs : List Finding) where
    abbrev M : Open → State
    M o = made mode_all duplicate_new md s n o k t fs

    no_name : (j : Kind) (o : Open) (c : Component) → implicit_of c (made_by_name cx.units cx.flags j c (M o)).refers_to ≡ None
    unfolding implicit_of
    no_name j o c = go c.modifiers.ref refl
      where
        go : (b : Bool) → c.modifiers.ref ≡ b → pick b None (made_by_name cx.units cx.flags j c (M o)).refers_to ≡ None
        go true q = refl
        go false q = unfold made_by_name made_with new_entry entry_of entry_with first_modes in no_reference (new_entry j c (M o))
            (found_same (new_entry j c (M o)) (table_of j (M o))) q

    no_ingredient : (o : Open) (c : Component) (i : Option Intermediate) → implicit_ingredient cx (M o) c i ≡ None
    unfolding implicit_ingredient make_ingredient made_intermediate
    no_ingredient o c None = no_name ingredient o c
    no_ingredient o c (Some i) = unfold implicit_of in pick_either (λ (x : Option Earlier). x ≡ None) c.modifiers.ref _ _ (λ b. refl) (λ b. refl)

    no_cookware : (o : Open) (c : Component) → implicit_cookware cx (M o) c ≡ None
    unfolding implicit_cookware make_cookware
    no_cookware o c = no_name cookware o c

    marked_fixed : (o : Open) (c : ComponentEvent) → marked_component cx (M o) c ≡ c
    unfolding marked_component marked_if
    marked_fixed o (ingredient_event c i) = rw (no_ingredient o c i)
    marked_fixed o (cookware_event c) = rw (no_cookware o c)
    marked_fixed o (timer_event a x q) = refl

    step_fixed : (o : Open) (i : Inside) → in_plain_step cx (M o) i ≡ i
    unfolding in_plain_step
    step_fixed o (end_event x) = refl
    step_fixed o (text_event x) = refl
    step_fixed o (component_event c) = ap component_event (marked_fixed o c)

    inside_fixed : (o : Open) (i : Inside) → is_text_mode o ≡ false → plain_inside cx (M o) i o ≡ inside i ∷ []
    unfolding plain_inside unless_listed is_components
    inside_fixed no_block i q = refl
    inside_fixed (step_open is) i q = rw (step_fixed (step_open is) i)
    inside_fixed (text_open ts) i q = refl
    inside_fixed (text_mode_open ts) i q = no_truth (sym q)

    between_fixed : (o : Open) (b : Between) → is_heeded cx.flags (between b) ≡ false → plain_between cx.flags (M o) b ≡ between b ∷ []
    unfolding plain_between unless_listed is_components is_text
    between_fixed o (meta_event a b) h = let q : (has_modes cx.flags && is_mode_key (key_of (key_text a))) ≡ false = sym (meta_heeded cx.flags a b) ∙ h in rw q
    between_fixed o (section_event x) h = refl
    between_fixed o (start_event step_kind) h = refl
    between_fixed o (start_event text_kind) h = refl

    event_fixed : (o : Open) (e : Event) → is_text_mode o ≡ false → is_heeded cx.flags e ≡ false → plain_event cx (M o) e ≡ e ∷ []
    unfolding plain_event
    event_fixed o (between b) q h = between_fixed o b h
    event_fixed o (inside i) q h = inside_fixed o i q
    event_fixed o (parser_event x y) q h = refl

    mark_faultless : (o : Open) (c : ComponentEvent) → mark_fault cx (M o) c ≡ None
    unfolding mark_fault implicit_fault
    mark_faultless o (ingredient_event c i) = rw (no_ingredient o c i)
    mark_faultless o (cookware_event c) = rw (no_cookware o c)
    mark_faultless o (timer_event a x q) = refl

    component_faultless : (o p : Open) (c : ComponentEvent) → component_fault cx (M p) c o ≡ None
    unfolding component_fault is_components
    component_faultless no_block p c = refl
    component_faultless (step_open is) p c = mark_faultless p c
    component_faultless (text_open ts) p c = refl
    component_faultless (text_mode_open ts) p c = refl

    event_faultless : (o : Open) (e : Event) → plain_fault cx (M o) e ≡ None
    unfolding plain_fault
    event_faultless o (between b) = refl
    event_faultless o (inside (end_event x)) = refl
    event_faultless o (inside (text_event x)) = refl
    event_faultless o (inside (component_event c)) = component_faultless o o c
    event_faultless o (parser_event x y) = refl

  -- ---- a state of a form's pass

  abbrev Formed : State → Type 0
  Formed st = as_form st.findings st ≡ st

  form_formed : (fs : List Finding) (st : State) → Formed (as_form fs st)
  unfolding first_modes is_components
  form_formed fs st =
      ap (λ (o : Open). made mode_all duplicate_new st.metadata st.place.section st.place.step_counter o st.kept st.tables fs)
      (twice st.modes.define st.place.block)
    where
      twice : (d : DefineMode) (o : Open) → form_open mode_all (form_open d o) ≡ form_open d o
      twice d no_block = refl
      twice d (step_open is) = pick_either (λ (x : Open). form_open mode_all x ≡ x) (is_components d) _ _ (λ b. refl) (λ b. refl)
      twice d (text_open ts) = refl
      twice d (text_mode_open ts) = refl

  formed_fixed : (st : State) (e : Event) → Formed st → is_heeded cx.flags e ≡ false → plain_event cx st e ≡ e ∷ []
  unfolding first_modes
  formed_fixed st e q h =
      subst (λ (x : State). plain_event cx x e ≡ e ∷ []) q
      (event_fixed st.metadata st.place.section st.place.step_counter st.kept st.tables st.findings
      (form_open st.modes.define st.place.block) e (form_no_text st.modes.define st.place.block) h)

  formed_faultless : (st : State) (e : Event) → Formed st → plain_fault cx st e ≡ None
  unfolding first_modes
  formed_faultless st e q =
      subst (λ (x : State). plain_fault cx x e ≡ None) q
      (event_faultless st.metadata st.place.section st.place.step_counter st.kept st.tables st.findings
      (form_open st.modes.define st.place.block) e)

  -- the simulation of a form by itself keeps its states of that shape
  formed_next : (st after : State) (e : Event) → Formed st → is_error_event e ≡ false → is_heeded cx.flags e ≡ false → on_event cx e st ≡ next after
      → Formed after
  formed_next st after e q ne h a =
      by (subst (λ (x : State). Sim cx x (next after) (e ∷ [])) q
      (subst (Sim cx (as_form st.findings st) (next after)) (formed_fixed st e q h)
      (subst (λ (x : Step). Sim cx (as_form st.findings st) x (plain_event cx st e)) a
      (event_sim cx st st.findings e ne (formed_faultless st e q)))))
    where
      by : Sim cx st (next after) (e ∷ []) → Formed after
      by (goes fs ne' b) = let g : as_form fs after ≡ after = cc in subst Formed g (form_formed fs after)

  -- ---- the walk over a form

  pub record OwnForm (line : ℕ) (st : State) (es : List Event) : Type 0 where
    pub same : plain_events cx (trace_from cx line (going st) es) ≡ es
    pub faultless : NoFaults cx (trace_from cx line (going st) es)

  walk_fixed : {es : List Event} → Quiet cx.flags es → (line : ℕ) (st end : State) → Formed st → walk cx line (going st) es ≡ going end
      → OwnForm line st es
  unfolding walk trace_from traced plain_events
  walk_fixed quiet_none line st end q w = record { same = refl; faultless = no_line }
  walk_fixed (quiet_more {e} {es} h g) line st end q w = go (walk_fixed g (suc line)) (is_error_event e) refl (on_event cx e st) refl
    where
      go : ((x y : State) → Formed x → walk cx (suc line) (going x) es ≡ going y → OwnForm (suc line) x es)
          → (b : Bool) → is_error_event e ≡ b → (s : Step) → on_event cx e st ≡ s → OwnForm line st (e ∷ es)
      go ih true ne s a = not_failed cx (suc line) _ es end (rw (step_fails cx line e st ne) at w)
      go ih false ne (stop x) a = not_refused cx (suc line) x line es end (rw (step_stops cx line x e st ne a) at w)
      go ih false ne (next after) a = on (over_limits after) (step_next cx line e st after ne a)
        where
          on : (b : Bool) → step cx line e (going st) ≡ pick b (refused 17 line) (going after) → OwnForm line st (e ∷ es)
          on true g = not_refused cx (suc line) 17 line es end (rw g at w)
          on false g =
              let r : OwnForm (suc line) after es = ih after end (formed_next st after e q ne h a) (rw g at w) in
              let f : NoFaults cx (trace_from cx (suc line) (step cx line e (going st)) es) = rw g r.faultless in
              record {
                same = rw (formed_fixed st e q h, g) (ap (λ (l : List Event). e ∷ l) r.same);
                faultless = no_fault (formed_faultless st e q) f;
              }

  -- a quiet list that yields a recipe is its own form
  pub form_fixed : (es : List Event) (st : State) → Quiet cx.flags es → parse_events cx es ≡ recipe st → OwnForm 1 first_state es
  form_fixed es st h q =
      let r : Went cx es st = went cx es st q in
      walk_fixed h 1 first_state r.last (unfold first_state first_modes in refl) r.there
