-- Components in the sheet and in the form, and every line.
use Prim.Native.Nat.{ℕ}
use mathlib.Core.Path.{◌≡◌, refl, sym, ap, ◌∙◌, subst}
use mathlib.Core.List.{List, [], ◌∷◌, reverse_aux}
use mathlib.Core.Bool.{Bool, true, false}
use Rattle.std.specs.Prelude.{Option, None, Some}
use Rattle.rules.specs.Input.{Context}
use Rattle.rules.specs.Basic.{pick}
use Rattle.rules.specs.Words.{severe, mild, DefineMode, mode_all, mode_components, mode_steps, mode_text, DuplicateMode}
use Rattle.rules.specs.Event.{Component, Intermediate, ComponentEvent, ingredient_event, cookware_event, timer_event, end_event, text_event, component_event, Event, between, inside, parser_event}
use Rattle.rules.specs.Modes.{first_modes, is_components}
use Rattle.rules.specs.Finding.{Finding}
use Rattle.rules.specs.Model.{Kind, ingredient, cookware, Entry, Item, Section, source_of, entry_with, entry_of, set_modifiers}
use Rattle.rules.specs.Reference.{Earlier, refers_to, as_referring}
use Rattle.rules.specs.State.{Open, no_block, step_open, text_open, text_mode_open, Metadata, Tables, Kept, State, set_place, set_block, set_kept, set_tables, table_of, set_table, set_timers, report, over_limits, Step, next}
use Rattle.rules.specs.Components.{Made, new_entry, found_same, made_with, made_by_name, made_intermediate, make_ingredient, make_cookware, timer_findings, intermediate_fault, pushed, refers_to_reference}
use Rattle.rules.specs.Pass.{push_items, item_of, push_component, unless_chained, unless_fault, push_timer, on_made, on_component, in_step_block, in_text_block, component_in_text, in_text_mode, is_error_event, on_inside, on_event}
use Rattle.rules.specs.Plain.{mark_ref, implicit_of, marked_if, implicit_fault, unless_listed, implicit_ingredient, implicit_cookware, marked_component, in_plain_step, mark_fault, component_fault, plain_fault, in_plain_text, plain_inside, plain_event}
use Rattle.rules.proofs.Basics.{pick_either, no_some, no_truth}
use Rattle.rules.proofs.Sim.{as_form, made, Sim, stopped, goes, between_sim, end_sim, text_sim, warning_sim}
use Rattle.rules.proofs.Search.{mark_entry_if, resolve_same, rebuilt_same}

marked_entry_lem : (k : Kind) (c : Component) (x : Option Earlier) (st : State) → new_entry k (marked_if c x) st ≡ mark_entry_if x (new_entry k c st)
unfolding new_entry entry_of entry_with marked_if mark_ref set_modifiers source_of
marked_entry_lem k c None st = refl
marked_entry_lem k c (Some d) st = refl

no_22 : {P : Type 0} → ◌≡◌ {A = Option ℕ} (Some 22) None → P
no_22 e = no_some (sym e)

module _ (cx : Context) where
  -- 18, or on
  chained_sim : (now after after' : State) (e : Event) (m m' : Made) (fs : List Finding) → is_error_event e ≡ false
      → on_event cx e now ≡ unless_chained m' after' → m'.refers_to ≡ m.refers_to → after' ≡ as_form fs after
      → Sim cx now (unless_chained m after) (e ∷ [])
  unfolding unless_chained
  chained_sim now after after' e m m' fs ne q r a =
      pick_either (λ (s : Step). Sim cx now s (e ∷ [])) (refers_to_reference m.refers_to) _ _
      (λ b. pick_either (λ (s : Step). Sim cx now s (e ∷ [])) (over_limits after) _ _ (λ h. stopped) (λ h. stopped))
      (λ b. goes fs ne (q ∙ on b))
    where
      on : refers_to_reference m.refers_to ≡ false → unless_chained m' after' ≡ next (as_form fs after)
      on b = rw (r, b, a)

  module _ (u : DuplicateMode) (md : Metadata) (s : Section) (n : ℕ) (k : Kept) (t : Tables) (fs fs' : List Finding) where
    abbrev M : DefineMode → Open → State
    M d o = made d u md s n o k t fs

    abbrev F : DefineMode → Open → State
    F d o = as_form fs' (M d o)

    push_same : (j : Kind) (d : DefineMode) (is : List Item) (m m' : Made) → is_components d ≡ false
        → pushed m' (table_of j (F d (step_open is))) ≡ pushed m (table_of j (M d (step_open is)))
        → push_component j m' is (F d (step_open is)) ≡ as_form (reverse_aux m'.findings fs') (push_component j m is (M d (step_open is)))
    unfolding push_component push_items item_of table_of set_table report set_block set_place set_kept set_tables is_components first_modes
    push_same ingredient mode_all is m m' c q = rw q
    push_same ingredient mode_components is m m' c q = no_truth (sym c)
    push_same ingredient mode_steps is m m' c q = rw q
    push_same ingredient mode_text is m m' c q = rw q
    push_same cookware mode_all is m m' c q = rw q
    push_same cookware mode_components is m m' c q = no_truth (sym c)
    push_same cookware mode_steps is m m' c q = rw q
    push_same cookware mode_text is m m' c q = rw q

    -- ---- in a step outside components mode

    module _ (d : DefineMode) (is : List Item) (nc : is_components d ≡ false) where
      abbrev N : State
      N = M d (step_open is)

      abbrev G : State
      G = F d (step_open is)

      new_same : (j : Kind) (c : Component) → new_entry j c G ≡ new_entry j c N
      unfolding new_entry first_modes is_components
      new_same j c = rw nc

      table_same : (j : Kind) → table_of j G ≡ table_of j N
      unfolding table_of
      table_same ingredient = refl
      table_same cookware = refl

      -- ---- an entry by name: the sheet's line c, and the form's line x

      module _ (j : Kind) (c : Component)
          (no_fault : implicit_fault (new_entry j c N) (table_of j N) (implicit_of c (made_by_name cx.units cx.flags j c N).refers_to) ≡ None) where
        abbrev goal : Option Earlier
        goal = (made_by_name cx.units cx.flags j c N).refers_to

        abbrev x : Component
        x = marked_if c (implicit_of c goal)

        new_marked : new_entry j x G ≡ mark_entry_if (implicit_of c goal) (new_entry j c N)
        new_marked = marked_entry_lem j c (implicit_of c goal) G ∙ ap (mark_entry_if (implicit_of c goal)) (new_same j c)

        pub form_to : (made_by_name cx.units cx.flags j x G).refers_to ≡ (made_by_name cx.units cx.flags j c N).refers_to
        unfolding made_by_name made_with implicit_of new_entry entry_of entry_with
        form_to =
            ap (λ (e : Entry). refers_to first_modes e (found_same e (table_of j G))) new_marked
            ∙ ap (λ (es : List Entry). refers_to first_modes (mark_entry_if (implicit_of c goal) (new_entry j c N))
            (found_same (mark_entry_if (implicit_of c goal) (new_entry j c N)) es)) (table_same j)
            ∙ resolve_same N.modes j (table_of j N) (new_entry j c N) goal refl no_fault

        pub form_entry : (made_by_name cx.units cx.flags j x G).entry ≡ (made_by_name cx.units cx.flags j c N).entry
        unfolding made_by_name made_with implicit_of new_entry entry_of entry_with
        form_entry =
            ap (λ (o : Option Earlier). as_referring j o (new_entry j x G)) form_to
            ∙ ap (as_referring j goal) new_marked
            ∙ rebuilt_same j (new_entry j c N) goal

        form_pushed : pushed (made_by_name cx.units cx.flags j x G) (table_of j G) ≡ pushed (made_by_name cx.units cx.flags j c N) (table_of j N)
        unfolding pushed
        form_pushed = rw (form_to, form_entry, table_same j)

        name_step : (e : Event) → is_error_event e ≡ false → on_event cx e G ≡ on_made j (made_by_name cx.units cx.flags j x G) is G
            → Sim cx G (on_made j (made_by_name cx.units cx.flags j c N) is N) (e ∷ [])
        unfolding on_made
        name_step e ne q =
            chained_sim G _ _ e (made_by_name cx.units cx.flags j c N) (made_by_name cx.units cx.flags j x G) _ ne q form_to
            (push_same j d is (made_by_name cx.units cx.flags j c N) (made_by_name cx.units cx.flags j x G) nc form_pushed)

      -- ---- an intermediate reference, never implicit

      intermediate_same : (c : Component) (i : Intermediate) → make_ingredient cx c (Some i) G ≡ make_ingredient cx c (Some i) N
      unfolding make_ingredient
      intermediate_same c i = rw (new_same ingredient c)

      never_implicit : (c : Component) (i : Intermediate) → c ≡ marked_if c (implicit_ingredient cx N c (Some i))
      unfolding implicit_ingredient implicit_of make_ingredient made_intermediate marked_if
      never_implicit c i = go c.modifiers.ref
        where
          go : (b : Bool) → c ≡ marked_if c (pick b None None)
          go true = refl
          go false = refl

      intermediate_step : (c : Component) (i : Intermediate) (f : Option ℕ) → intermediate_fault c (Some i) ≡ f
          → Sim cx G (unless_fault f (on_made ingredient (make_ingredient cx c (Some i) N) is N))
          (inside (component_event (ingredient_event c (Some i))) ∷ [])
      unfolding on_event on_inside in_step_block on_component on_made is_error_event unless_fault
      intermediate_step c i (Some e) q = stopped
      intermediate_step c i None q =
          chained_sim G _ _ _ (make_ingredient cx c (Some i) N) (make_ingredient cx c (Some i) G) _ refl onx
          (ap (λ (m : Made). m.refers_to) (intermediate_same c i))
          (push_same ingredient d is (make_ingredient cx c (Some i) N) (make_ingredient cx c (Some i) G) nc
          (ap (λ (m : Made). pushed m (table_of ingredient G)) (intermediate_same c i)
          ∙ ap (pushed (make_ingredient cx c (Some i) N)) (table_same ingredient)))
        where
          onx : on_event cx (inside (component_event (ingredient_event c (Some i)))) G
              ≡ unless_chained (make_ingredient cx c (Some i) G) (push_component ingredient (make_ingredient cx c (Some i) G) is G)
          onx = rw (nc, q)

      -- ---- every component of a step

      step_sim : (c : ComponentEvent) → mark_fault cx N c ≡ None
          → Sim cx G (on_component cx c is N) (inside (component_event (marked_component cx N c)) ∷ [])
      unfolding mark_fault marked_component on_component implicit_cookware implicit_ingredient make_cookware made_by_name make_ingredient is_error_event
      step_sim (cookware_event c) f = name_step cookware c f _ refl onx
        where
          onx : on_event cx (inside (component_event (cookware_event (x cookware c f)))) G ≡ on_made cookware
              (made_by_name cx.units cx.flags cookware (x cookware c f) G) is G
          onx = unfold on_event on_inside in_step_block in rw nc
      step_sim (ingredient_event c None) f = unfold make_ingredient intermediate_fault unless_fault in name_step ingredient c f _ refl onx
        where
          onx : on_event cx (inside (component_event (ingredient_event (x ingredient c f) None))) G ≡ on_made ingredient
              (made_by_name cx.units cx.flags ingredient (x ingredient c f) G) is G
          onx = unfold on_event on_inside in_step_block make_ingredient intermediate_fault unless_fault in rw nc
      step_sim (ingredient_event c (Some i)) f =
          subst (λ (y : Component). Sim cx G
          (unless_fault (intermediate_fault c (Some i)) (on_made ingredient (make_ingredient cx c (Some i) N) is N))
          (inside (component_event (ingredient_event y (Some i))) ∷ []))
          (never_implicit c i) (intermediate_step c i (intermediate_fault c (Some i)) refl)
      step_sim (timer_event at name q) f = goes (reverse_aux (timer_findings cx.units cx.flags q) fs') refl onx
        where
          onx : on_event cx (inside (component_event (timer_event at name q))) G ≡ next
              (as_form (reverse_aux (timer_findings cx.units cx.flags q) fs') (push_timer cx.units cx.flags name q is N))
          onx = unfold on_event on_inside in_step_block push_timer push_items set_timers report set_block set_place set_kept set_tables is_components first_modes in rw nc

    component_sim : (d : DefineMode) (o : Open) (c : ComponentEvent) → component_fault cx (M d o) c o ≡ None
        → Sim cx (F d o) (on_inside cx (component_event c) o (M d o)) (plain_inside cx (M d o) (component_event c) o)
    unfolding on_inside on_event in_step_block in_text_block in_text_mode plain_inside in_plain_step in_plain_text unless_listed component_fault is_components report set_block set_place component_in_text is_error_event first_modes
    component_sim d no_block c f = stopped
    component_sim mode_all (step_open is) c f = step_sim mode_all is refl c f
    component_sim mode_components (step_open is) c f = no_22 f
    component_sim mode_steps (step_open is) c f = step_sim mode_steps is refl c f
    component_sim mode_text (step_open is) c f = step_sim mode_text is refl c f
    component_sim d (text_open ts) c f = stopped
    component_sim d (text_mode_open ts) c f = goes fs' refl refl

    event_made : (d : DefineMode) (o : Open) (e : Event) → is_error_event e ≡ false → plain_fault cx (M d o) e ≡ None
        → Sim cx (F d o) (on_event cx e (M d o)) (plain_event cx (M d o) e)
    unfolding on_event plain_event is_error_event plain_fault
    event_made d o (between b) ne f = between_sim cx u md s n k t fs fs' d o b
    event_made d o (inside (end_event x)) ne f = end_sim cx u md s n k t fs fs' d o x
    event_made d o (inside (text_event x)) ne f = text_sim cx u md s n k t fs fs' d o x
    event_made d o (inside (component_event c)) ne f = component_sim d o c f
    event_made d o (parser_event severe x) ne f = no_truth (sym ne)
    event_made d o (parser_event mild x) ne f = warning_sim cx u md s n k t fs fs' d o x

  -- every line: what it makes of the sheet's state, its form's lines make of the form's
  pub event_sim : (st : State) (fs : List Finding) (e : Event) → is_error_event e ≡ false → plain_fault cx st e ≡ None
      → Sim cx (as_form fs st) (on_event cx e st) (plain_event cx st e)
  event_sim st fs e =
      event_made st.modes.duplicate st.metadata st.place.section st.place.step_counter st.kept st.tables st.findings fs
      st.modes.define st.place.block e
