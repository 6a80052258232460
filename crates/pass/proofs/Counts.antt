-- How many blocks, steps and lines for 3 a state holds, after every line.
use Prim.Native.Nat.{ℕ, suc, ◌+◌, ◌≤◌}
use mathlib.Core.Path.{◌≡◌, refl, ap}
use mathlib.Core.List.{List, [], ◌∷◌}
use Rattle.std.specs.Prelude.{Option, None, Some}
use native.Mathlib.Omega.{arith}
use lib.ListN.{length, length-replicate}
use Rattle.rules.specs.Input.{Context}
use Rattle.rules.specs.Basic.{each, on_some}
use Rattle.rules.specs.Words.{step_kind, text_kind, define_key, duplicate_key, DefineMode, DuplicateMode}
use Rattle.rules.specs.Event.{Text, ComponentEvent, ingredient_event, cookware_event, timer_event, Between, meta_event, section_event, start_event, Inside, end_event, text_event, component_event, Event, between, inside, parser_event}
use Rattle.rules.specs.Modes.{is_components, Key, config, unknown_config, ordinary}
use Rattle.rules.specs.Model.{Kind, ingredient, cookware, trimmed_text, Item, Block}
use Rattle.rules.specs.State.{Place, Open, no_block, step_open, text_open, text_mode_open, State, first_state, set_modes, set_metadata, set_place, set_block, set_kept, set_tables, table_of, set_table, set_timers, set_inline, report, over_limits, Step, next, stop}
use Rattle.rules.specs.Metadata.{store_meta, on_define, on_duplicate, on_key, on_metadata}
use Rattle.rules.specs.Components.{Made, intermediate_fault, refers_to_reference}
use Rattle.rules.specs.Pass.{is_open, is_empty_section, close_section, on_section, keep_block, close_text, close_step, push_items, push_pieces, push_component, unless_chained, unless_fault, text_in_step, push_timer, on_made, on_component, in_step_block, in_text_block, component_in_text, in_text_mode, on_inside, on_between, on_event}
use Rattle.rules.proofs.Basics.{pick_either}
use Rattle.model.specs.Blank.{blank_block, blank_place, blank_metadata, blank_kept, blank, blank_span}
use Rattle.pass.specs.Walks.{Counted}

abbrev pub CountedStep : ℕ → Step → Type 0
CountedStep n (next st) = Counted n st
CountedStep n (stop k) = Unit {0}

later : {n : ℕ} (st : State) → Counted n st → Counted (suc n) st
later st s = (s.0, s.1, omega (arith, s.2))

-- ---- lines between blocks

define_counted : {n : ℕ} (k v : Text) (o : Option DefineMode) (st : State) → Counted n st → Counted n (on_define k v o st)
unfolding on_define report set_modes
define_counted k v None st s = s
define_counted k v (Some m) st s = s

duplicate_counted : {n : ℕ} (k v : Text) (o : Option DuplicateMode) (st : State) → Counted n st → Counted n (on_duplicate k v o st)
unfolding on_duplicate report set_modes
duplicate_counted k v None st s = s
duplicate_counted k v (Some m) st s = s

key_counted : {n : ℕ} (key : Key) (k v : Text) (st : State) → Counted n st → Counted (suc n) (on_key key k v st)
unfolding on_key store_meta set_metadata report
key_counted (config define_key) k v st s = define_counted k v _ st (later st s)
key_counted (config duplicate_key) k v st s = duplicate_counted k v _ st (later st s)
key_counted unknown_config k v st s = later st s
key_counted ordinary k v st s = (s.0, s.1, omega (arith, s.2))

section_counted : {n : ℕ} (name : Option Text) (st : State) → Counted n st → Counted n (on_section name st)
unfolding on_section close_section set_place set_kept
section_counted {n} name st s =
    let p : Place = record { section = record { name = on_some trimmed_text name; content = [] }; step_counter = 1; block = no_block } in
    pick_either (λ (x : State). Counted n (set_place p x)) (is_empty_section st.place.section) _ _ (λ b. (omega arith, omega arith, s.2))
    (λ b. (omega arith, omega arith, s.2))

-- ---- lines in a block

keep_counted : {n : ℕ} (b : Block) (m : ℕ) (st : State) → m ≤ st.place.step_counter + 1 → Counted n st → Counted n (keep_block b m st)
unfolding keep_block set_kept set_place
keep_counted b m st l s = (omega (arith, s.0), omega (arith, l, s.1), s.2)

step_counted : {n : ℕ} (is : List Item) (st : State) → Counted n st → Counted n (close_step is st)
unfolding close_step set_block set_place
step_counted {n} is st s = pick_either (Counted n) (is_components st.modes.define) _ _ (λ b. s) (λ b. keep_counted _ (suc st.place.step_counter) st (omega arith) s)

push_counted : {n : ℕ} (k : Kind) (m : Made) (is : List Item) (st : State) → Counted n st → Counted n (push_component k m is st)
unfolding push_component push_items set_table set_tables table_of report set_block set_place set_kept
push_counted ingredient m is st s = s
push_counted cookware m is st s = s

chained_counted : {n : ℕ} (m : Made) (st : State) → Counted n st → CountedStep n (unless_chained m st)
unfolding unless_chained
chained_counted {n} m st s =
    pick_either (CountedStep n) (refers_to_reference m.refers_to) _ _ (λ b. pick_either (CountedStep n) (over_limits st) _ _ (λ c. tt) (λ c. tt)) (λ b. s)

fault_counted : (n : ℕ) (o : Option ℕ) (s : Step) → CountedStep n s → CountedStep n (unless_fault o s)
unfolding unless_fault
fault_counted n None s c = c
fault_counted n (Some k) s c = tt

module _ (cx : Context) where
  made_counted : {n : ℕ} (k : Kind) (m : Made) (is : List Item) (st : State) → Counted n st → CountedStep n (on_made k m is st)
  unfolding on_made
  made_counted k m is st s = chained_counted m _ (push_counted k m is st s)

  component_counted : {n : ℕ} (c : ComponentEvent) (is : List Item) (st : State) → Counted n st → CountedStep n (on_component cx c is st)
  unfolding on_component push_timer push_items report set_block set_place set_kept set_timers set_tables
  component_counted {n} (ingredient_event c i) is st s = fault_counted n (intermediate_fault c i) _ (made_counted ingredient _ is st s)
  component_counted (cookware_event c) is st s = made_counted cookware _ is st s
  component_counted (timer_event a k q) is st s = s

  in_step_counted : {n : ℕ} (e : Inside) (is : List Item) (st : State) → Counted n st → CountedStep n (in_step_block cx e is st)
  unfolding in_step_block text_in_step push_pieces push_items set_inline report set_block set_place set_kept set_tables
  in_step_counted (end_event step_kind) is st s = step_counted is st s
  in_step_counted (end_event text_kind) is st s = tt
  in_step_counted {n} (text_event t) is st s = pick_either (Counted n) (is_components st.modes.define) _ _ (λ b. s) (λ b. s)
  in_step_counted (component_event c) is st s = component_counted c is st s

  inside_counted : {n : ℕ} (e : Inside) (o : Open) (st : State) → Counted n st → CountedStep n (on_inside cx e o st)
  unfolding on_inside in_text_block in_text_mode close_text component_in_text report set_block set_place
  inside_counted e no_block st s = tt
  inside_counted e (step_open is) st s = in_step_counted e is st s
  inside_counted (end_event step_kind) (text_open ts) st s = tt
  inside_counted (end_event text_kind) (text_open ts) st s = keep_counted _ st.place.step_counter st (omega arith) s
  inside_counted (text_event t) (text_open ts) st s = s
  inside_counted (component_event c) (text_open ts) st s = tt
  inside_counted (end_event k) (text_mode_open ts) st s = keep_counted _ st.place.step_counter st (omega arith) s
  inside_counted (text_event t) (text_mode_open ts) st s = s
  inside_counted (component_event c) (text_mode_open ts) st s = s

  between_counted : {n : ℕ} (b : Between) (st : State) → Counted n st → Counted (suc n) (on_between cx b st)
  unfolding on_between on_metadata set_block set_place
  between_counted (meta_event k v) st s = key_counted _ k v st s
  between_counted (section_event name) st s = section_counted name st (later st s)
  between_counted (start_event k) st s = later st s

  pub event_counted : {n : ℕ} (e : Event) (st : State) → Counted n st → CountedStep (suc n) (on_event cx e st)
  unfolding on_event report
  event_counted {n} (between b) st s = pick_either (CountedStep (suc n)) (is_open st.place.block) _ _ (λ h. tt) (λ h. between_counted b st s)
  event_counted (inside i) st s = inside_counted i st.place.block st (later st s)
  event_counted (parser_event x k) st s = later st s

-- ---- the start, and what memory keeps

pub first_counted : (n : ℕ) → Counted n first_state
unfolding first_state
first_counted n = (omega arith, omega arith, omega arith)

each_length : (bs : List Block) → length (each blank_block bs) ≡ length bs
unfolding each
each_length [] = refl
each_length (b ∷ bs) = ap suc (each_length bs)

pub counted_blank : {n : ℕ} (st : State) → Counted n st → Counted n (blank st)
unfolding blank blank_place blank_metadata blank_kept
counted_blank st s =
    let e = each_length st.place.section.content in
    let o = length-replicate (length st.metadata.old) blank_span in
    (omega (arith, e, s.0), omega (arith, e, s.1), omega (arith, o, s.2))

pub counted_more : {n m : ℕ} (st : State) → n ≤ m → Counted n st → Counted m st
counted_more st l s = (s.0, s.1, omega (arith, l, s.2))
