-- The plain form's faults are those of demand 3's words: 22 and 23 arise on the lines that these words name, and on no other.
use Prim.Native.Nat.{ℕ}
use mathlib.Core.Path.{◌≡◌, refl, sym, ap, ◌∙◌, subst}
use mathlib.Core.List.{List, [], ◌∷◌}
use mathlib.Core.Bool.{Bool, true, false, not}
use Rattle.std.specs.Prelude.{Option, None, Some}
use native.Mathlib.Omega.{arith}
use borrow.Author.Tests.{eq-eqb, ne_eqb}
use Rattle.rules.specs.Input.{Context}
use Rattle.rules.specs.Basic.{pick, on_some}
use Rattle.rules.specs.Words.{BlockKind, step_kind, text_kind, Severity, DefineMode, mode_all, mode_components, mode_steps, mode_text}
use Rattle.rules.specs.Event.{Text, Component, Intermediate, ComponentEvent, ingredient_event, cookware_event, timer_event, Between, meta_event, section_event, start_event, Inside, end_event, text_event, component_event, Event, between, inside, parser_event}
use Rattle.rules.specs.Modes.{is_components, is_text}
use Rattle.rules.specs.Model.{Kind, ingredient, cookware, trimmed_text, Entry, Item}
use Rattle.rules.specs.Reference.{Earlier, same_name_of, refers_to}
use Rattle.rules.specs.State.{Open, no_block, step_open, text_open, text_mode_open, State, set_place, set_block, set_kept, set_tables, table_of, set_inline, report, Step, next, stop}
use Rattle.rules.specs.Components.{new_entry, found_same, made_with, made_by_name, make_ingredient, make_cookware, intermediate_fault}
use Rattle.rules.specs.Pass.{is_open, is_empty_section, close_section, on_section, opened, keep_block, close_text, close_step, push_items, push_pieces, unless_fault, text_in_step, on_component, in_step_block, in_text_block, component_in_text, in_text_mode, on_inside, on_between, on_event}
use Rattle.rules.specs.Plain.{implicit_of, is_last, implicit_fault, implicit_ingredient, implicit_cookware, mark_fault, component_fault, plain_fault}
use Rattle.rules.specs.Demand.{is_component_inside, is_component_line, mode_key, define_at, entry_line, no_entry, entry_of_line, Unmarked, folded_name, last_named, implicit_target, entry_in, unmarked, implicit_by, implicit_at, last_by, last_of_name}
use Rattle.rules.specs.PlainForm.{IsClear, Faulty, listed, not_last}
use Rattle.rules.proofs.Basics.{pick_either, no_some, no_truth, some_inj}
use Rattle.rules.proofs.Linked.{Links, no_link, last_link, other_link, line_links}
use Rattle.rules.proofs.Known.{Agrees, Knows, KnowsStep, no_entry_lem, text_entry, knows_same, meta_knows}
use Rattle.rules.proofs.KnownStep.{entry_ingredient, entry_cookware, entry_timer, component_knows}

pub data LineFault (flags : ℕ) (earlier : List Event) (e : Event) : Option ℕ → Type 0 where
  clear : IsClear flags earlier e → LineFault flags earlier e None
  faulty : {n : ℕ} → Faulty flags earlier e n → LineFault flags earlier e (Some n)

text_unlisted : (m : DefineMode) → is_text m ≡ true → is_components m ≡ false
unfolding is_text is_components
text_unlisted mode_all q = refl
text_unlisted mode_components q = no_truth q
text_unlisted mode_steps q = refl
text_unlisted mode_text q = refl

no_next : {P : Type 0} {n : ℕ} {st : State} → stop n ≡ next st → P
no_next q = absurd (let z : ◌≡◌ {A = ℕ} 0 1 = cc in omega arith)

marked_none : (c : Component) (o : Option Earlier) → c.modifiers.ref ≡ true → implicit_of c o ≡ None
unfolding implicit_of
marked_none c o r = rw r

module _ (cx : Context) (earlier : List Event) (st : State) (h : Knows cx.flags earlier st) where
  -- ---- every line keeps what is known

  abbrev N : Event → Step → Type 0
  N e s = KnowsStep cx.flags (e ∷ earlier) s

  agrees : (o : Open) → st.place.block ≡ o → Agrees o (is_text st.modes.define)
  agrees o q = subst (λ (x : Open). Agrees x (is_text st.modes.define)) q h.block

  -- a line that changes neither modes nor entries
  still : (e : Event) → mode_key e ≡ None → entry_of_line e ≡ no_entry → (after : State) → after.modes ≡ st.modes
      → after.tables.ingredients ≡ st.tables.ingredients → after.tables.cookware ≡ st.tables.cookware
      → Agrees after.place.block (is_text st.modes.define)
      → Knows cx.flags (e ∷ earlier) after
  still e q x = knows_same cx.flags earlier st h e q (no_entry_lem cx.flags (define_at cx.flags earlier) e x)

  between_still : (b : Between) → entry_of_line (between b) ≡ no_entry
  unfolding entry_of_line
  between_still b = refl

  opened_agrees : (m : DefineMode) (k : BlockKind) → Agrees (opened m k) (is_text m)
  unfolding opened
  opened_agrees m step_kind = pick_either (λ (o : Open). Agrees o (is_text m)) (is_text m) _ _ (λ b. b) (λ b. b)
  opened_agrees m text_kind = pick_either (λ (o : Open). Agrees o (is_text m)) (is_text m) _ _ (λ b. b) (λ b. b)

  between_knows : (b : Between) → is_open st.place.block ≡ false → Knows cx.flags (between b ∷ earlier) (on_between cx b st)
  unfolding on_between
  between_knows (meta_event k v) q = meta_knows cx.flags earlier st h q k v
  between_knows (section_event n) q =
      unfold on_section close_section set_place set_kept mode_key in
      pick_either (λ (s : State). Knows cx.flags (between (section_event n) ∷ earlier)
      (set_place (record { section = record { name = on_some trimmed_text n; content = [] }; step_counter = 1; block = no_block }) s))
      (is_empty_section st.place.section) _ _
      (λ b. still (between (section_event n)) refl (between_still (section_event n)) _ refl refl refl tt)
      (λ b. still (between (section_event n)) refl (between_still (section_event n)) _ refl refl refl tt)
  between_knows (start_event k) q =
      unfold set_block set_place mode_key in still (between (start_event k)) refl (between_still (start_event k)) _ refl refl refl (opened_agrees st.modes.define k)

  end_still : (k : BlockKind) → entry_of_line (inside (end_event k)) ≡ no_entry
  unfolding entry_of_line
  end_still k = refl

  text_still : (t : Text) → entry_of_line (inside (text_event t)) ≡ no_entry
  unfolding entry_of_line
  text_still t = refl

  step_knows : (i : Inside) (is : List Item) → st.place.block ≡ step_open is → N (inside i) (in_step_block cx i is st)
  unfolding in_step_block mode_key
  step_knows (end_event step_kind) is q =
      unfold close_step keep_block set_block set_place set_kept in
      pick_either (Knows cx.flags (inside (end_event step_kind) ∷ earlier)) (is_components st.modes.define) _ _
      (λ b. still (inside (end_event step_kind)) refl (end_still step_kind) _ refl refl refl tt)
      (λ b. still (inside (end_event step_kind)) refl (end_still step_kind) _ refl refl refl tt)
  step_knows (end_event text_kind) is q = tt
  step_knows (text_event t) is q =
      unfold text_in_step push_pieces push_items set_inline set_tables report set_block set_place set_kept in
      pick_either (Knows cx.flags (inside (text_event t) ∷ earlier)) (is_components st.modes.define) _ _
      (λ b. still (inside (text_event t)) refl (text_still t) _ refl refl refl h.block)
      (λ b. still (inside (text_event t)) refl (text_still t) _ refl refl refl (agrees (step_open is) q))
  step_knows (component_event c) is q = component_knows cx earlier st h c is (agrees (step_open is) q)

  inside_knows : (i : Inside) (o : Open) → st.place.block ≡ o → N (inside i) (on_inside cx i o st)
  unfolding on_inside in_text_block in_text_mode close_text keep_block component_in_text report set_block set_place set_kept mode_key
  inside_knows i no_block q = tt
  inside_knows i (step_open is) q = step_knows i is q
  inside_knows (end_event step_kind) (text_open ts) q = tt
  inside_knows (end_event text_kind) (text_open ts) q = still (inside (end_event text_kind)) refl (end_still text_kind) _ refl refl refl tt
  inside_knows (text_event t) (text_open ts) q = still (inside (text_event t)) refl (text_still t) _ refl refl refl (agrees (text_open ts) q)
  inside_knows (component_event c) (text_open ts) q = tt
  inside_knows (end_event k) (text_mode_open ts) q = still (inside (end_event k)) refl (end_still k) _ refl refl refl tt
  inside_knows (text_event t) (text_mode_open ts) q = still (inside (text_event t)) refl (text_still t) _ refl refl refl (agrees (text_mode_open ts) q)
  inside_knows (component_event c) (text_mode_open ts) q =
      knows_same cx.flags earlier st h (inside (component_event c)) refl
      (text_entry cx.flags (define_at cx.flags earlier) (inside (component_event c)) (ap is_text (sym h.define) ∙ agrees (text_mode_open ts) q)) _ refl refl refl
      (agrees (text_mode_open ts) q)

  parser_still : (s : Severity) (n : ℕ) → entry_of_line (parser_event s n) ≡ no_entry
  unfolding entry_of_line
  parser_still s n = refl

  pub event_knows : (e : Event) → N e (on_event cx e st)
  unfolding on_event report mode_key
  event_knows (between b) = pick_either (N (between b)) (is_open st.place.block) _ _ (λ q. tt) (λ q. between_knows b q)
  event_knows (inside i) = inside_knows i st.place.block refl
  event_knows (parser_event s n) = still (parser_event s n) refl (parser_still s n) _ refl refl refl h.block

  -- ---- faults

  -- a line that is no component
  no_component_lem : (e : Event) → is_component_line e ≡ false → entry_in (define_at cx.flags earlier) e ≡ no_entry → LineFault cx.flags earlier e None
  unfolding implicit_at implicit_by
  no_component_lem e q x = clear (record { unlisted = λ c. no_truth (sym q ∙ c); last = λ u p. no_some (rw x at p) })

  module _ (e : Event) (unl : is_components st.modes.define ≡ false) where
    mode_unlisted : is_components (define_at cx.flags earlier) ≡ false
    mode_unlisted = ap is_components (sym h.define) ∙ unl

    -- a component that is no implicit reference
    not_implicit : implicit_at cx.flags earlier e ≡ None → LineFault cx.flags earlier e None
    not_implicit q = clear (record { unlisted = λ c. mode_unlisted; last = λ u p. no_some (sym q ∙ p) })

    no_line : entry_in (define_at cx.flags earlier) e ≡ no_entry → implicit_at cx.flags earlier e ≡ None
    unfolding implicit_at implicit_by
    no_line x = rw x

    module _ (j : Kind) (c : Component) (x : entry_in (define_at cx.flags earlier) e ≡ entry_line j c) where
      implicit_is : implicit_at cx.flags earlier e ≡ implicit_target st.modes.define st.modes.duplicate j c (unmarked cx.flags j earlier)
      unfolding implicit_at implicit_by
      implicit_is = rw (x, h.define, h.duplicate)

      last_is : last_of_name cx.flags earlier e ≡ last_named (folded_name j c) (unmarked cx.flags j earlier)
      unfolding last_of_name last_by
      last_is = rw x

      ref_explicit : c.modifiers.ref ≡ true → implicit_at cx.flags earlier e ≡ None
      ref_explicit r = implicit_is ∙ (unfold implicit_target in rw r)

      link_fault : {a b : Option Earlier} {u v : Option Unmarked} → Links a b u v → implicit_at cx.flags earlier e ≡ u → last_of_name cx.flags earlier e ≡ v
          → (new : Entry) (table : List Entry) → same_name_of true new table ≡ b
          → LineFault cx.flags earlier e (implicit_fault new table a)
      unfolding implicit_fault is_last
      link_fault no_link p q new table s = not_implicit p
      link_fault (last_link {d = d} {u = u}) p q new table s =
          rw (s, eq-eqb d.index d.index refl) (clear (record { unlisted = λ c. mode_unlisted; last = λ w r. q ∙ sym p ∙ r }))
      link_fault (other_link {d = d} {l = l} {u = u} {v = v} lt g) p q new table s =
          rw (s, ne_eqb d.index l.index (λ z. omega arith)) (faulty (not_last mode_unlisted u p differs))
        where
          differs : last_of_name cx.flags earlier e ≡ Some u → ⊥
          differs r = let z : v ≡ u = some_inj (sym q ∙ r) in let y : v.place ≡ u.place = ap (λ (w : Unmarked). w.place) z in omega arith

      name_fault : LineFault cx.flags earlier e (implicit_fault (new_entry j c st) (table_of j st) (implicit_of c (made_by_name cx.units cx.flags j c st).refers_to))
      unfolding implicit_of made_by_name made_with
      name_fault = go c.modifiers.ref refl
        where
          go : (b : Bool) → c.modifiers.ref ≡ b
              → LineFault cx.flags earlier e (implicit_fault (new_entry j c st) (table_of j st)
              (pick b None (refers_to st.modes (new_entry j c st) (found_same (new_entry j c st) (table_of j st)))))
          go true r = unfold implicit_fault in not_implicit (ref_explicit r)
          go false r = link_fault (line_links j c st (unmarked cx.flags j earlier) r (h.tables j)) implicit_is last_is (new_entry j c st) (table_of j st) refl

  entry_here : (j : Kind) (c : Component) (e : Event) → entry_of_line e ≡ entry_line j c → is_text st.modes.define ≡ false
      → entry_in (define_at cx.flags earlier) e ≡ entry_line j c
  unfolding entry_in
  entry_here j c e q t = rw (sym h.define, t, q)

  no_15 : (c : Component) (i : Intermediate) (s : Step) (after : State) → unless_fault (intermediate_fault c (Some i)) s ≡ next after → c.modifiers.ref ≡ true
  unfolding intermediate_fault unless_fault
  no_15 c i s after = go c.modifiers.ref
    where
      go : (b : Bool) → unless_fault (pick {X = Option ℕ} (not b) (Some 15) (pick i.value.negative (Some 16) None)) s ≡ next after → b ≡ true
      go true q = refl
      go false q = no_next q

  mark_fault_lem : (c : ComponentEvent) (is : List Item) (after : State) → is_text st.modes.define ≡ false → is_components st.modes.define ≡ false
      → on_component cx c is st ≡ next after → LineFault cx.flags earlier (inside (component_event c)) (mark_fault cx st c)
  unfolding mark_fault implicit_ingredient implicit_cookware make_cookware on_component
  mark_fault_lem (cookware_event c) is after t unl q =
      name_fault (inside (component_event (cookware_event c))) unl cookware c (entry_here cookware c (inside (component_event (cookware_event c))) (entry_cookware c) t)
  mark_fault_lem (ingredient_event c None) is after t unl q =
      unfold make_ingredient in
      name_fault (inside (component_event (ingredient_event c None))) unl ingredient c
      (entry_here ingredient c (inside (component_event (ingredient_event c None))) (entry_ingredient c None) t)
  mark_fault_lem (ingredient_event c (Some i)) is after t unl q = by
    where
      e : Event
      e = inside (component_event (ingredient_event c (Some i)))

      r : c.modifiers.ref ≡ true
      r = no_15 c i _ after q

      clean : LineFault cx.flags earlier e None
      clean = not_implicit e unl (ref_explicit e unl ingredient c (entry_here ingredient c e (entry_ingredient c (Some i)) t) r)

      by : LineFault cx.flags earlier e (implicit_fault (new_entry ingredient c st) (table_of ingredient st)
          (implicit_of c (make_ingredient cx c (Some i) st).refers_to))
      by =
          subst (λ (o : Option Earlier). LineFault cx.flags earlier e (implicit_fault (new_entry ingredient c st) (table_of ingredient st) o)) (sym (marked_none c _ r))
          (unfold implicit_fault in clean)
  mark_fault_lem (timer_event a x y) is after t unl q =
      not_implicit (inside (component_event (timer_event a x y))) unl
      (no_line (inside (component_event (timer_event a x y))) unl
      (no_entry_lem cx.flags (define_at cx.flags earlier) (inside (component_event (timer_event a x y))) (entry_timer a x y)))

  component_fault_lem : (c : ComponentEvent) (o : Open) (after : State) → st.place.block ≡ o → on_inside cx (component_event c) o st ≡ next after
      → LineFault cx.flags earlier (inside (component_event c)) (component_fault cx st c o)
  unfolding on_inside in_step_block in_text_block component_fault
  component_fault_lem c no_block after p q = no_next q
  component_fault_lem c (text_open ts) after p q = no_next q
  component_fault_lem c (text_mode_open ts) after p q =
      not_implicit (inside (component_event c)) (text_unlisted st.modes.define (agrees (text_mode_open ts) p))
      (no_line (inside (component_event c)) (text_unlisted st.modes.define (agrees (text_mode_open ts) p))
      (text_entry cx.flags (define_at cx.flags earlier) (inside (component_event c)) (ap is_text (sym h.define) ∙ agrees (text_mode_open ts) p)))
  component_fault_lem c (step_open is) after p q =
      pick_either (LineFault cx.flags earlier (inside (component_event c))) (is_components st.modes.define) _ _
      (λ b. faulty (listed is_component (ap is_components (sym h.define) ∙ b)))
      (λ b. mark_fault_lem c is after (agrees (step_open is) p) b q)
    where
      is_component : is_component_line (inside (component_event c)) ≡ true
      is_component = unfold is_component_line is_component_inside in refl

  -- what a fault, or none, says of a line that the pass takes
  pub fault_means : (e : Event) (after : State) → on_event cx e st ≡ next after → LineFault cx.flags earlier e (plain_fault cx st e)
  unfolding plain_fault on_event is_component_line is_component_inside
  fault_means (between b) after q = no_component_lem (between b) refl (no_entry_lem cx.flags (define_at cx.flags earlier) (between b) (between_still b))
  fault_means (inside (end_event k)) after q = no_component_lem (inside (end_event k)) refl (no_entry_lem cx.flags (define_at cx.flags earlier) (inside (end_event k)) (end_still k))
  fault_means (inside (text_event t)) after q = no_component_lem (inside (text_event t)) refl
      (no_entry_lem cx.flags (define_at cx.flags earlier) (inside (text_event t)) (text_still t))
  fault_means (inside (component_event c)) after q = component_fault_lem c st.place.block after refl q
  fault_means (parser_event s n) after q = no_component_lem (parser_event s n) refl (no_entry_lem cx.flags (define_at cx.flags earlier) (parser_event s n) (parser_still s n))

-- ---- a line has one fault or none

pub no_both : {P : Type 0} {flags : ℕ} {earlier : List Event} {e : Event} {n : ℕ} → IsClear flags earlier e → Faulty flags earlier e n → P
no_both c (listed a b) = no_truth (sym (c.unlisted a) ∙ b)
no_both c (not_last a u p d) = absurd (d (c.last u p))

pub one_fault : {flags : ℕ} {earlier : List Event} {e : Event} {n m : ℕ} → Faulty flags earlier e n → Faulty flags earlier e m → n ≡ m
one_fault (listed a b) (listed c d) = refl
one_fault (listed a b) (not_last c u p d) = no_truth (sym c ∙ b)
one_fault (not_last c u p d) (listed a b) = no_truth (sym c ∙ b)
one_fault (not_last c u p d) (not_last c' u' p' d') = refl
