-- Every line keeps what the pass knows beside what the lines say.
use Prim.Native.Nat.{ℕ, suc}
use mathlib.Core.Path.{◌≡◌, refl, sym, ap, ◌∙◌, subst}
use mathlib.Core.List.{List, ◌∷◌}
use mathlib.Core.Bool.{Bool, true, false, ◌||◌, not}
use Rattle.std.specs.Prelude.{Option, None, Some}
use native.Mathlib.Omega.{arith}
use lib.ListN.{length}
use Rattle.rules.specs.Input.{Context}
use Rattle.rules.specs.Basic.{pick, is_some}
use Rattle.rules.specs.Unicode.{fold_name}
use Rattle.rules.specs.Words.{DefineMode, DuplicateMode}
use Rattle.rules.specs.Event.{Span, Text, Quantity, Component, Intermediate, ComponentEvent, ingredient_event, cookware_event, timer_event, component_event, Event, inside}
use Rattle.rules.specs.Modes.{is_text}
use Rattle.rules.specs.Model.{Kind, ingredient, cookware, with_ref, Entry, Item, entry_with, entry_of, set_relation, set_modifiers}
use Rattle.rules.specs.Reference.{Earlier, refers_to, as_referring}
use Rattle.rules.specs.State.{State, set_place, set_block, set_kept, set_tables, table_of, set_table, set_timers, report, over_limits, Step}
use Rattle.rules.specs.Components.{Made, new_entry, found_same, made_with, made_by_name, made_intermediate, make_ingredient, make_cookware, intermediate_fault, pushed, refers_to_reference}
use Rattle.rules.specs.Pass.{push_items, push_component, unless_chained, unless_fault, push_timer, on_made, on_component}
use Rattle.rules.specs.Demand.{mode_key, define_at, duplicate_at, EntryLine, entry_line, no_entry, entry_of_component, entry_of_line, Unmarked, folded_name, implicit_target, is_marked, same_kind, entry_in, unmarked_by, unmarked}
use Rattle.rules.proofs.Basics.{pick_either}
use Rattle.rules.proofs.Linked.{Below, below_more, below_up, Listed, listed_marked, listed_entry, referred_listed, Links, no_link, last_link, other_link, line_links}
use Rattle.rules.proofs.Known.{Agrees, Knows, KnowsStep, define_same, duplicate_same, no_entry_lem, knows_same}

-- component lines set no mode; which of them are entries

pub mode_none : (c : ComponentEvent) → mode_key (inside (component_event c)) ≡ None
unfolding mode_key
mode_none c = refl

pub entry_ingredient : (c : Component) (i : Option Intermediate) → entry_of_line (inside (component_event (ingredient_event c i))) ≡ entry_line ingredient c
unfolding entry_of_line entry_of_component
entry_ingredient c i = refl

pub entry_cookware : (c : Component) → entry_of_line (inside (component_event (cookware_event c))) ≡ entry_line cookware c
unfolding entry_of_line entry_of_component
entry_cookware c = refl

pub entry_timer : (s : Span) (n : Option Text) (q : Option Quantity) → entry_of_line (inside (component_event (timer_event s n q))) ≡ no_entry
unfolding entry_of_line entry_of_component
entry_timer s n q = refl

-- ---- what a component becomes: marked as a reference, or an entry of its name

data MadeAs (m : DefineMode) (d : DuplicateMode) (j : Kind) (c : Component) (us : List Unmarked) : Entry → Type 0 where
  as_marked : {e : Entry} → is_marked m d j c us ≡ true → e.modifiers.ref ≡ true → MadeAs m d j c us e
  as_entry : {e : Entry} → is_marked m d j c us ≡ false → e.modifiers.ref ≡ false → fold_name e.name ≡ folded_name j c → e.modifiers.opt ≡ c.modifiers.opt
      → MadeAs m d j c us e

module _ (m : DefineMode) (d : DuplicateMode) (j : Kind) (c : Component) where
  has_ref : (us : List Unmarked) → c.modifiers.ref ≡ true → is_marked m d j c us ≡ true
  unfolding is_marked
  has_ref us r = rw r

  by_target : (us : List Unmarked) (x : Option Unmarked) → c.modifiers.ref ≡ false → implicit_target m d j c us ≡ x → is_marked m d j c us ≡ is_some x
  unfolding is_marked
  by_target us x r q = ap (λ (b : Bool). b || is_some (implicit_target m d j c us)) r ∙ ap is_some q

  -- a new entry in the table
  push_listed : (x : Made) (table : List Entry) (us : List Unmarked) (place : ℕ) → Listed table us → Below place us → MadeAs m d j c us x.entry
      → Listed (pushed x table) (pick (not (is_marked m d j c us)) (record { place = place; folded = folded_name j c; is_opt = c.modifiers.opt } ∷ us) us)
  unfolding pushed
  push_listed x table us place h b (as_marked q r) = rw q (listed_marked r (referred_listed x.refers_to h))
  push_listed x table us place h b (as_entry q r f o) = rw q (listed_entry r f o b (referred_listed x.refers_to h))

  push_below : (us : List Unmarked) (place : ℕ) → Below place us
      → Below (suc place) (pick (not (is_marked m d j c us)) (record { place = place; folded = folded_name j c; is_opt = c.modifiers.opt } ∷ us) us)
  push_below us place b = pick_either (Below (suc place)) (not (is_marked m d j c us)) _ _ (λ q. below_more (omega arith) (below_up b)) (λ q. below_up b)

referring_ref : (j : Kind) (o : Option Earlier) (new : Entry) → new.modifiers.ref ≡ true → (as_referring j o new).modifiers.ref ≡ true
unfolding as_referring set_relation set_modifiers with_ref
referring_ref j None new q = q
referring_ref j (Some d) new q = refl

module _ (cx : Context) where
  by_name_made : (j : Kind) (c : Component) (st : State) (us : List Unmarked) → Listed (table_of j st) us
      → MadeAs st.modes.define st.modes.duplicate j c us (made_by_name cx.units cx.flags j c st).entry
  unfolding made_by_name made_with
  by_name_made j c st us h = go c.modifiers.ref refl
    where
      new : Entry
      new = new_entry j c st

      target : Option Earlier
      target = refers_to st.modes new (found_same new (table_of j st))

      by : {a b : Option Earlier} {x y : Option Unmarked} → Links a b x y → c.modifiers.ref ≡ false
          → implicit_target st.modes.define st.modes.duplicate j c us ≡ x
          → MadeAs st.modes.define st.modes.duplicate j c us (as_referring j a new)
      by no_link r q =
          unfold as_referring new_entry entry_of entry_with is_some folded_name in
          as_entry (by_target st.modes.define st.modes.duplicate j c us None r q) r refl refl
      by last_link r q =
          unfold as_referring set_relation set_modifiers with_ref is_some in as_marked (by_target st.modes.define st.modes.duplicate j c us (Some _) r q) refl
      by (other_link p g) r q =
          unfold as_referring set_relation set_modifiers with_ref is_some in as_marked (by_target st.modes.define st.modes.duplicate j c us (Some _) r q) refl

      go : (b : Bool) → c.modifiers.ref ≡ b → MadeAs st.modes.define st.modes.duplicate j c us (as_referring j target new)
      go true r = as_marked (has_ref st.modes.define st.modes.duplicate j c us r) (referring_ref j target new (unfold new_entry entry_of entry_with in r))
      go false r = by (line_links j c st us r h) r refl

  intermediate_made : (c : Component) (i : Intermediate) (st : State) (us : List Unmarked) → c.modifiers.ref ≡ true
      → MadeAs st.modes.define st.modes.duplicate ingredient c us (make_ingredient cx c (Some i) st).entry
  unfolding make_ingredient made_intermediate set_relation new_entry entry_of entry_with
  intermediate_made c i st us r = as_marked (has_ref st.modes.define st.modes.duplicate ingredient c us r) r

  -- ---- an entry pushed

  module _ (earlier : List Event) (st : State) (h : Knows cx.flags earlier st) where
    abbrev Us : Kind → List Unmarked
    Us k = unmarked cx.flags k earlier

    abbrev N : Event → Step → Type 0
    N e s = KnowsStep cx.flags (e ∷ earlier) s

    tables_pushed : (j k : Kind) (c : Component) (m : Made) (is : List Item)
        → Listed (pushed m (table_of j st)) (pick (not (is_marked (define_at cx.flags earlier) (duplicate_at cx.flags earlier) j c (Us j)))
        (record { place = length earlier; folded = folded_name j c; is_opt = c.modifiers.opt } ∷ Us j) (Us j))
        → Listed (table_of k (push_component j m is st)) (unmarked_by (define_at cx.flags earlier) (duplicate_at cx.flags earlier) k (length earlier) (entry_line j c) (Us k))
    unfolding unmarked_by same_kind push_component push_items set_table set_tables table_of report set_block set_place set_kept
    tables_pushed ingredient ingredient c m is p = p
    tables_pushed ingredient cookware c m is p = h.tables cookware
    tables_pushed cookware ingredient c m is p = h.tables ingredient
    tables_pushed cookware cookware c m is p = p

    places_pushed : (j k : Kind) (c : Component)
        → Below (suc (length earlier)) (unmarked_by (define_at cx.flags earlier) (duplicate_at cx.flags earlier) k (length earlier) (entry_line j c) (Us k))
    unfolding unmarked_by same_kind
    places_pushed ingredient ingredient c = push_below (define_at cx.flags earlier) (duplicate_at cx.flags earlier) ingredient c (Us ingredient) (length earlier)
        (h.places ingredient)
    places_pushed ingredient cookware c = below_up (h.places cookware)
    places_pushed cookware ingredient c = below_up (h.places ingredient)
    places_pushed cookware cookware c = push_below (define_at cx.flags earlier) (duplicate_at cx.flags earlier) cookware c (Us cookware) (length earlier)
        (h.places cookware)

    unmarked_entry : (j k : Kind) (e : Event) (c : Component) → entry_of_line e ≡ entry_line j c → is_text st.modes.define ≡ false
        → unmarked cx.flags k (e ∷ earlier) ≡ unmarked_by (define_at cx.flags earlier) (duplicate_at cx.flags earlier) k (length earlier) (entry_line j c) (Us k)
    unfolding unmarked
    unmarked_entry j k e c q t = ap (λ (x : EntryLine). unmarked_by (define_at cx.flags earlier) (duplicate_at cx.flags earlier) k (length earlier) x (Us k)) here
      where
        here : entry_in (define_at cx.flags earlier) e ≡ entry_line j c
        here = unfold entry_in in rw (sym h.define, t, q)

    pushed_knows : (j : Kind) (e : Event) (c : Component) (m : Made) (is : List Item) → mode_key e ≡ None → entry_of_line e ≡ entry_line j c
        → is_text st.modes.define ≡ false
        → MadeAs st.modes.define st.modes.duplicate j c (Us j) m.entry → Knows cx.flags (e ∷ earlier) (push_component j m is st)
    pushed_knows j e c m is q x t a =
        record {
          define = modes_define ∙ h.define ∙ sym (define_same cx.flags e earlier q);
          duplicate = modes_duplicate ∙ h.duplicate ∙ sym (duplicate_same cx.flags e earlier q);
          block = subst (λ (y : DefineMode). Agrees (push_component j m is st).place.block (is_text y)) (sym modes_define) opened_step;
          tables = λ k. subst (Listed (table_of k (push_component j m is st))) (sym (unmarked_entry j k e c x t)) (tables_pushed j k c m is made_in);
          places = λ k. subst (Below (suc (length earlier))) (sym (unmarked_entry j k e c x t)) (places_pushed j k c);
        }
      where
        modes_define : (push_component j m is st).modes.define ≡ st.modes.define
        modes_define = by j
          where
            by : (j : Kind) → (push_component j m is st).modes.define ≡ st.modes.define
            by ingredient = unfold push_component push_items set_table set_tables report set_block set_place set_kept in refl
            by cookware = unfold push_component push_items set_table set_tables report set_block set_place set_kept in refl

        modes_duplicate : (push_component j m is st).modes.duplicate ≡ st.modes.duplicate
        modes_duplicate = by j
          where
            by : (j : Kind) → (push_component j m is st).modes.duplicate ≡ st.modes.duplicate
            by ingredient = unfold push_component push_items set_table set_tables report set_block set_place set_kept in refl
            by cookware = unfold push_component push_items set_table set_tables report set_block set_place set_kept in refl

        opened_step : Agrees (push_component j m is st).place.block (is_text st.modes.define)
        opened_step = unfold push_component push_items report set_block set_place set_kept in t

        made_in : Listed (pushed m (table_of j st))
            (pick (not (is_marked (define_at cx.flags earlier) (duplicate_at cx.flags earlier) j c (Us j)))
            (record { place = length earlier; folded = folded_name j c; is_opt = c.modifiers.opt } ∷ Us j) (Us j))
        made_in =
            push_listed (define_at cx.flags earlier) (duplicate_at cx.flags earlier) j c m (table_of j st) (Us j) (length earlier) (h.tables j) (h.places j)
            (subst (λ (y : DuplicateMode). MadeAs (define_at cx.flags earlier) y j c (Us j) m.entry) h.duplicate
            (subst (λ (y : DefineMode). MadeAs y st.modes.duplicate j c (Us j) m.entry) h.define a))

    -- ---- lines in a step

    chained_knows : (e : Event) (m : Made) (after : State) → Knows cx.flags (e ∷ earlier) after → N e (unless_chained m after)
    unfolding unless_chained
    chained_knows e m after k =
        pick_either (N e) (refers_to_reference m.refers_to) _ _ (λ b. pick_either (N e) (over_limits after) _ _ (λ c. tt) (λ c. tt)) (λ b. k)

    pub component_knows : (c : ComponentEvent) (is : List Item) → is_text st.modes.define ≡ false
        → N (inside (component_event c)) (on_component cx c is st)
    unfolding on_component on_made make_cookware intermediate_fault unless_fault
    component_knows (cookware_event c) is t =
        chained_knows _ _ _ (pushed_knows cookware _ c _ is (mode_none _) (entry_cookware c) t (by_name_made cookware c st _ (h.tables cookware)))
    component_knows (timer_event a x q) is t =
        unfold push_timer push_items set_timers set_tables report set_block set_place set_kept in
        knows_same cx.flags earlier st h (inside (component_event (timer_event a x q))) (mode_none (timer_event a x q))
        (no_entry_lem cx.flags (define_at cx.flags earlier) (inside (component_event (timer_event a x q))) (entry_timer a x q))
        (push_timer cx.units cx.flags x q is st) refl refl refl t
    component_knows (ingredient_event c None) is t =
        unfold make_ingredient in
        chained_knows _ _ _ (pushed_knows ingredient _ c _ is (mode_none _) (entry_ingredient c None) t (by_name_made ingredient c st _ (h.tables ingredient)))
    component_knows (ingredient_event c (Some i)) is t = go c.modifiers.ref refl i.value.negative
      where
        e : Event
        e = inside (component_event (ingredient_event c (Some i)))

        m : Made
        m = make_ingredient cx c (Some i) st

        go : (b : Bool) → c.modifiers.ref ≡ b → (n : Bool)
            → N e (unless_fault (pick {X = Option ℕ} (not b) (Some 15) (pick n (Some 16) None)) (unless_chained m (push_component ingredient m is st)))
        go false r n = tt
        go true r true = tt
        go true r false =
            chained_knows e m (push_component ingredient m is st)
            (pushed_knows ingredient e c m is (mode_none (ingredient_event c (Some i))) (entry_ingredient c (Some i)) t (intermediate_made c i st (Us ingredient) r))
