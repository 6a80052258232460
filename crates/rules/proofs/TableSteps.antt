-- What a line does to the tables of components: nothing, or one component more. So what holds of a table and the table with
-- one component more, holds from line to line.
use Prim.Native.Nat.{ℕ, suc}
use mathlib.Core.Path.{◌≡◌, refl, sym, subst}
use mathlib.Core.List.{List, [], ◌∷◌}
use mathlib.Core.Bool.{Bool, true, false, not}
use Rattle.std.specs.Prelude.{Option, None, Some}
use lib.Dec.{eqb}
use Rattle.rules.specs.Input.{Context}
use Rattle.rules.specs.Basic.{pick}
use Rattle.rules.specs.Words.{step_kind, text_kind, define_key, duplicate_key, DefineMode, DuplicateMode}
use Rattle.rules.specs.Event.{Text, Component, Intermediate, ComponentEvent, ingredient_event, cookware_event, timer_event, Between, meta_event, section_event, start_event, Inside, end_event, text_event, component_event, Event, between, inside, parser_event}
use Rattle.rules.specs.Modes.{is_components, Key, config, unknown_config, ordinary}
use Rattle.rules.specs.Model.{Kind, ingredient, cookware, Entry, Item}
use Rattle.rules.specs.State.{Open, no_block, step_open, text_open, text_mode_open, Tables, State, set_modes, set_metadata, set_place, set_block, set_kept, set_tables, table_of, set_table, set_timers, set_inline, report, over_limits, Step, next, stop, Walk, going, failed, refused}
use Rattle.rules.specs.Metadata.{store_meta, on_define, on_duplicate, on_key, on_metadata}
use Rattle.rules.specs.Components.{Made, made_by_name, make_ingredient, make_cookware, intermediate_fault, pushed, refers_to_reference}
use Rattle.rules.specs.Pass.{is_open, is_empty_section, close_section, on_section, keep_block, close_text, close_step, push_items, push_pieces, push_component, unless_chained, unless_fault, text_in_step, push_timer, on_made, on_component, in_step_block, in_text_block, component_in_text, in_text_mode, is_error_event, settle, on_inside, on_between, on_event, step, walk}
use Rattle.rules.proofs.Basics.{pick_either}

-- what a line makes: a component by its name, or an ingredient that refers to a step or section, which has REF
pub data MadeBy (cx : Context) (st : State) : Kind → Made → Type 0 where
  by_name : (k : Kind) (c : Component) → MadeBy cx st k (made_by_name cx.units cx.flags k c st)
  by_place : (c : Component) (i : Intermediate) → c.modifiers.ref ≡ true → MadeBy cx st ingredient (make_ingredient cx c (Some i) st)

abbrev pub SameTables : State → State → Type 0
SameTables st after = (after.tables.ingredients ≡ st.tables.ingredients) × (after.tables.cookware ≡ st.tables.cookware)

-- the tables after a line; 18 only where a component refers to a reference
pub data TablesAfter (cx : Context) (st : State) : Step → Type 0 where
  tables_kept : {after : State} → SameTables st after → TablesAfter cx st (next after)
  one_pushed : {after : State} (k : Kind) (m : Made) → MadeBy cx st k m → refers_to_reference m.refers_to ≡ false
      → after.tables ≡ (set_table k (pushed m (table_of k st)) st).tables → TablesAfter cx st (next after)
  line_stops : {n : ℕ} → eqb n 18 ≡ false → TablesAfter cx st (stop n)
  line_chains : (k : Kind) (m : Made) → MadeBy cx st k m → refers_to_reference m.refers_to ≡ true → TablesAfter cx st (stop 18)

-- ---- lines between blocks

define_same : (k v : Text) (o : Option DefineMode) (st : State) → SameTables st (on_define k v o st)
unfolding on_define report set_modes
define_same k v None st = (refl, refl)
define_same k v (Some m) st = (refl, refl)

duplicate_same : (k v : Text) (o : Option DuplicateMode) (st : State) → SameTables st (on_duplicate k v o st)
unfolding on_duplicate report set_modes
duplicate_same k v None st = (refl, refl)
duplicate_same k v (Some m) st = (refl, refl)

key_same : (key : Key) (k v : Text) (st : State) → SameTables st (on_key key k v st)
unfolding on_key store_meta set_metadata report
key_same (config define_key) k v st = define_same k v _ st
key_same (config duplicate_key) k v st = duplicate_same k v _ st
key_same unknown_config k v st = (refl, refl)
key_same ordinary k v st = (refl, refl)

section_same : (name : Option Text) (st : State) → SameTables st (on_section name st)
unfolding on_section close_section set_place set_kept
section_same name st = pick_either (SameTables st) (is_empty_section st.place.section) _ _ (λ b. (refl, refl)) (λ b. (refl, refl))

module _ (cx : Context) (st : State) where
  between_same : (b : Between) → SameTables st (on_between cx b st)
  unfolding on_between on_metadata set_block set_place
  between_same (meta_event k v) = key_same _ k v st
  between_same (section_event n) = section_same n st
  between_same (start_event k) = (refl, refl)

  abbrev T : Step → Type 0
  T s = TablesAfter cx st s

  -- ---- lines in a step

  made_tables : (k : Kind) (m : Made) (is : List Item) → MadeBy cx st k m → T (on_made k m is st)
  unfolding on_made unless_chained push_component push_items set_block set_place set_kept report
  made_tables k m is h =
      pick_either T (refers_to_reference m.refers_to) _ _
      (λ b. pick_either T (over_limits (push_component k m is st)) _ _ (λ c. line_stops refl) (λ c. line_chains k m h b)) (λ b. one_pushed k m h b refl)

  ingredient_tables : (c : Component) (i : Option Intermediate) (is : List Item)
      → T (unless_fault (intermediate_fault c i) (on_made ingredient (make_ingredient cx c i st) is st))
  unfolding intermediate_fault unless_fault
  ingredient_tables c None is = unfold make_ingredient in made_tables ingredient _ is (by_name ingredient c)
  ingredient_tables c (Some i) is = go c.modifiers.ref refl i.value.negative
    where
      go : (b : Bool) → c.modifiers.ref ≡ b → (n : Bool)
          → T (unless_fault (pick {X = Option ℕ} (not b) (Some 15) (pick n (Some 16) None)) (on_made ingredient (make_ingredient cx c (Some i) st) is st))
      go false r n = line_stops refl
      go true r true = line_stops refl
      go true r false = made_tables ingredient _ is (by_place c i r)

  component_tables : (c : ComponentEvent) (is : List Item) → T (on_component cx c is st)
  unfolding on_component make_cookware push_timer push_items report set_block set_place set_kept set_timers set_tables
  component_tables (ingredient_event c i) is = ingredient_tables c i is
  component_tables (cookware_event c) is = made_tables cookware _ is (by_name cookware c)
  component_tables (timer_event a n q) is = tables_kept (refl, refl)

  in_step_tables : (e : Inside) (is : List Item) → T (in_step_block cx e is st)
  unfolding in_step_block close_step keep_block text_in_step push_pieces push_items set_inline report set_block set_place set_kept set_tables
  in_step_tables (end_event step_kind) is = tables_kept (pick_either (SameTables st) (is_components st.modes.define) _ _ (λ b. (refl, refl)) (λ b. (refl, refl)))
  in_step_tables (end_event text_kind) is = line_stops refl
  in_step_tables (text_event t) is = tables_kept (pick_either (SameTables st) (is_components st.modes.define) _ _ (λ b. (refl, refl)) (λ b. (refl, refl)))
  in_step_tables (component_event c) is = component_tables c is

  -- ---- every line

  inside_tables : (e : Inside) (o : Open) → T (on_inside cx e o st)
  unfolding on_inside in_text_block in_text_mode close_text keep_block component_in_text report set_block set_place set_kept
  inside_tables e no_block = line_stops refl
  inside_tables e (step_open is) = in_step_tables e is
  inside_tables (end_event step_kind) (text_open ts) = line_stops refl
  inside_tables (end_event text_kind) (text_open ts) = tables_kept (refl, refl)
  inside_tables (text_event t) (text_open ts) = tables_kept (refl, refl)
  inside_tables (component_event c) (text_open ts) = line_stops refl
  inside_tables (end_event k) (text_mode_open ts) = tables_kept (refl, refl)
  inside_tables (text_event t) (text_mode_open ts) = tables_kept (refl, refl)
  inside_tables (component_event c) (text_mode_open ts) = tables_kept (refl, refl)

  pub event_tables : (e : Event) → TablesAfter cx st (on_event cx e st)
  unfolding on_event report
  event_tables (between b) = pick_either T (is_open st.place.block) _ _ (λ h. line_stops refl) (λ h. tables_kept (between_same b))
  event_tables (inside i) = inside_tables i st.place.block
  event_tables (parser_event x n) = tables_kept (refl, refl)

-- ---- the walk: what every line keeps

module _ (P : State → Type 0) (Q : ℕ → Type 0) where
  abbrev pub OnStep : Step → Type 0
  OnStep (next st) = P st
  OnStep (stop n) = Q n

  abbrev pub OnWalk : Walk → Type 0
  OnWalk (going st) = P st
  OnWalk (failed fs) = Unit {0}
  OnWalk (refused n l) = Q n

  module _ (cx : Context) (q : Q 17) (each : (e : Event) (st : State) → P st → OnStep (on_event cx e st)) where
    settle_keeps : (line : ℕ) (s : Step) → OnStep s → OnWalk (settle line s)
    unfolding settle
    settle_keeps line (next st) p = pick_either OnWalk (over_limits st) _ _ (λ b. q) (λ b. p)
    settle_keeps line (stop n) p = p

    pub step_keeps : (line : ℕ) (e : Event) (w : Walk) → OnWalk w → OnWalk (step cx line e w)
    unfolding step
    step_keeps line e (going st) p = pick_either OnWalk (is_error_event e) _ _ (λ b. tt) (λ b. settle_keeps line _ (each e st p))
    step_keeps line e (failed fs) p = tt
    step_keeps line e (refused n l) p = p

    pub walk_keeps : (es : List Event) (line : ℕ) (w : Walk) → OnWalk w → OnWalk (walk cx line w es)
    unfolding walk
    walk_keeps [] line w p = p
    walk_keeps (e ∷ es) line w p = walk_keeps es (suc line) (step cx line e w) (step_keeps line e w p)

-- ---- a relation of tables, from any state of a walk to a later one

pub record Onward (cx : Context) (T : Kind → List Entry → List Entry → Type 0) : Type 0 where
  pub same : (k : Kind) (es : List Entry) → T k es es
  pub further : {k : Kind} {es fs gs : List Entry} → T k es fs → T k fs gs → T k es gs
  pub more : (k : Kind) (m : Made) (st : State) → MadeBy cx st k m → refers_to_reference m.refers_to ≡ false
      → T k (table_of k st) (pushed m (table_of k st))

abbrev pub Related : (Kind → List Entry → List Entry → Type 0) → State → State → Type 0
Related T st after = (k : Kind) → T k (table_of k st) (table_of k after)

module _ (cx : Context) (T : Kind → List Entry → List Entry → Type 0) (o : Onward cx T) where
  kept_related : (st after : State) → SameTables st after → Related T st after
  unfolding table_of
  kept_related st after h ingredient = subst (T ingredient st.tables.ingredients) (sym h.0) (o.same ingredient st.tables.ingredients)
  kept_related st after h cookware = subst (T cookware st.tables.cookware) (sym h.1) (o.same cookware st.tables.cookware)

  pushed_related : (st : State) (k : Kind) (es : List Entry) → T k (table_of k st) es → Related T st (set_table k es st)
  unfolding table_of set_table set_tables
  pushed_related st ingredient es h ingredient = h
  pushed_related st ingredient es h cookware = o.same cookware st.tables.cookware
  pushed_related st cookware es h ingredient = o.same ingredient st.tables.ingredients
  pushed_related st cookware es h cookware = h

  same_related : (st after other : State) → after.tables ≡ other.tables → Related T st other → Related T st after
  unfolding table_of
  same_related st after other q h ingredient = subst (λ (t : Tables). T ingredient st.tables.ingredients t.ingredients) (sym q) (h ingredient)
  same_related st after other q h cookware = subst (λ (t : Tables). T cookware st.tables.cookware t.cookware) (sym q) (h cookware)

  pub line_related : (st : State) (s : Step) → TablesAfter cx st s → OnStep (Related T st) (λ n. Unit {0}) s
  line_related st (next after) (tables_kept h) = kept_related st after h
  line_related st (next after) (one_pushed k m h b q) = same_related st after _ q (pushed_related st k (pushed m (table_of k st)) (o.more k m st h b))
  line_related st (stop n) h = tt

  further_step : (first st : State) → Related T first st → (s : Step) → OnStep (Related T st) (λ n. Unit {0}) s → OnStep (Related T first) (λ n. Unit {0}) s
  further_step first st p (next after) h = λ k. o.further (p k) (h k)
  further_step first st p (stop n) h = tt

  event_related : (first : State) (e : Event) (st : State) → Related T first st → OnStep (Related T first) (λ n. Unit {0}) (on_event cx e st)
  event_related first e st p = further_step first st p (on_event cx e st) (line_related st _ (event_tables cx st e))

  pub step_related : (line : ℕ) (e : Event) (st after : State) → step cx line e (going st) ≡ going after → Related T st after
  step_related line e st after q =
      subst (OnWalk (Related T st) (λ n. Unit {0})) q
      (step_keeps (Related T st) (λ n. Unit {0}) cx tt (event_related st) line e (going st) (λ k. o.same k (table_of k st)))

  pub walk_related : (es : List Event) (line : ℕ) (st final : State) → walk cx line (going st) es ≡ going final → Related T st final
  walk_related es line st final q =
      subst (OnWalk (Related T st) (λ n. Unit {0})) q
      (walk_keeps (Related T st) (λ n. Unit {0}) cx tt (event_related st) es line (going st) (λ k. o.same k (table_of k st)))
