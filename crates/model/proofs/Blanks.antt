-- What the pass makes of a line does not depend on what `blank` takes away, but for what `blank` takes away.
use Prim.Native.Nat.{ℕ, suc, ◌+◌}
use mathlib.Core.Path.{◌≡◌, refl, sym, ap, ◌∙◌}
use mathlib.Core.List.{List, [], ◌∷◌, ◌++◌}
use mathlib.Core.Bool.{Bool, true, false}
use Rattle.std.specs.Prelude.{Option, None, Some}
use lib.ListN.{length, length-replicate, length-reverse_aux}
use Rattle.rules.specs.Input.{Context}
use Rattle.rules.specs.Basic.{pick, each, is_empty, is_some, any, when}
use Rattle.rules.specs.Unicode.{is_alphanumeric}
use Rattle.rules.specs.Words.{step_kind, text_kind, define_key, duplicate_key, DefineMode, DuplicateMode, IntermediateTarget, target_step, target_section}
use Rattle.rules.specs.Event.{Span, Text, Quantity, Component, Intermediate, ComponentEvent, ingredient_event, cookware_event, timer_event, Between, meta_event, section_event, start_event, Inside, end_event, text_event, component_event, component_span, Event, between, inside, parser_event}
use Rattle.rules.specs.Inline.{Piece}
use Rattle.rules.specs.Finding.{Finding, found, only_parsed}
use Rattle.rules.specs.Model.{Kind, ingredient, cookware, Item, Block, step_block, text_block}
use Rattle.rules.specs.Modes.{Modes, is_components, Key, config, unknown_config, ordinary}
use Rattle.rules.specs.State.{Open, no_block, step_open, text_open, text_mode_open, Place, State, set_modes, set_metadata, set_place, set_block, set_kept, set_tables, table_of, set_table, set_timers, set_inline, report, over_limits, Step, next, stop, Walk, going, failed, refused}
use Rattle.rules.specs.Metadata.{store_meta, on_define, on_duplicate, on_key, on_metadata}
use Rattle.rules.specs.Checks.{step_indices, candidates, resolve_intermediate_ref}
use Rattle.rules.specs.Components.{Made, refers_to_reference, new_entry, made_by_name, make_ingredient, make_cookware}
use Rattle.rules.specs.Pass.{is_open, is_empty_section, close_section, on_section, opened, keep_block, close_text, close_step, push_items, push_pieces, push_component, unless_chained, unless_fault, pieces, text_in_step, push_timer, on_made, on_component, in_step_block, in_text_block, source_text, component_in_text, parser_findings, is_error_event, in_text_mode, settle, on_inside, on_between, on_event, step, walk}
use Rattle.model.specs.Blank.{blank_span, blank_block, blank_open, blank_name, blank_place, blank_metadata, blank_kept, blank_tables, blank, blank_step, blank_walk}

-- ---- twice is once

block_twice : (b : Block) → blank_block (blank_block b) ≡ blank_block b
unfolding blank_block
block_twice (step_block n is) = refl
block_twice (text_block t) = refl

blocks_twice : (bs : List Block) → each blank_block (each blank_block bs) ≡ each blank_block bs
unfolding each
blocks_twice [] = refl
blocks_twice (b ∷ bs) = rw (block_twice b, blocks_twice bs)

name_twice_lem : (n : Option (List ℕ)) → blank_name (blank_name n) ≡ blank_name n
unfolding blank_name
name_twice_lem None = refl
name_twice_lem (Some n) = refl

pub open_twice : (o : Open) → blank_open (blank_open o) ≡ blank_open o
unfolding blank_open
open_twice no_block = refl
open_twice (step_open is) = refl
open_twice (text_open ts) = refl
open_twice (text_mode_open ts) = refl

pub blank_twice : (st : State) → blank (blank st) ≡ blank st
unfolding blank blank_place blank_metadata blank_kept blank_tables
blank_twice st = simp (length-replicate, blocks_twice, name_twice_lem, open_twice)

pub walk_twice : (w : Walk) → blank_walk (blank_walk w) ≡ blank_walk w
unfolding blank_walk
walk_twice (going st) = ap going (blank_twice st)
walk_twice (failed fs) = refl
walk_twice (refused n l) = refl

-- ---- what the pass asks of a state

length_each : (bs : List Block) → length (each blank_block bs) ≡ length bs
unfolding each
length_each [] = refl
length_each (b ∷ bs) = ap suc (length_each bs)

step_indices_lem : (bs : List Block) → step_indices (each blank_block bs) ≡ step_indices bs
unfolding step_indices each blank_block
step_indices_lem [] = refl
step_indices_lem (step_block n is ∷ bs) = rw (length_each bs, step_indices_lem bs)
step_indices_lem (text_block t ∷ bs) = step_indices_lem bs

candidates_blank : (t : IntermediateTarget) (bs : List Block) (n : ℕ) → candidates t (each blank_block bs) n ≡ candidates t bs n
unfolding candidates
candidates_blank target_step bs n = step_indices_lem bs
candidates_blank target_section bs n = refl

pub resolve_blank : (i : Intermediate) (bs : List Block) (n : ℕ) → resolve_intermediate_ref i (each blank_block bs) n ≡ resolve_intermediate_ref i bs n
unfolding resolve_intermediate_ref
resolve_blank i bs n = simp (candidates_blank)

empty_blocks : (bs : List Block) → is_empty (each blank_block bs) ≡ is_empty bs
unfolding is_empty each
empty_blocks [] = refl
empty_blocks (b ∷ bs) = refl

some_name : (n : Option (List ℕ)) → is_some (blank_name n) ≡ is_some n
unfolding is_some blank_name
some_name None = refl
some_name (Some n) = refl

empty_section : (p : Place) → is_empty_section (blank_place p).section ≡ is_empty_section p.section
unfolding is_empty_section blank_place
empty_section p = rw (some_name p.section.name, empty_blocks p.section.content)

pub over_blank : (st : State) → over_limits (blank st) ≡ over_limits st
unfolding over_limits blank blank_kept blank_tables
over_blank st = simp (length-replicate)

pub open_blank : (o : Open) → is_open (blank_open o) ≡ is_open o
unfolding is_open blank_open
open_blank no_block = refl
open_blank (step_open is) = refl
open_blank (text_open ts) = refl
open_blank (text_mode_open ts) = refl

old_count : (st : State) → length st.metadata.old ≡ length (blank st).metadata.old
unfolding blank blank_metadata
old_count st = sym (length-replicate (length st.metadata.old) blank_span)

blank_findings : (st : State) → (blank st).findings ≡ st.findings
unfolding blank
blank_findings st = refl

-- ---- updates: the state before may be blank

blank_pick : (b : Bool) (x y : State) → blank (pick b x y) ≡ pick b (blank x) (blank y)
blank_pick true x y = refl
blank_pick false x y = refl

pub blank_report : (fs : List Finding) (st : State) → blank (report fs st) ≡ report fs (blank st)
unfolding blank report
blank_report fs st = refl

report_blank : (fs : List Finding) (st : State) → blank (report fs st) ≡ blank (report fs (blank st))
report_blank fs st = rw (blank_report fs st, blank_report fs (blank st), blank_twice st)

report_like : (fs : List Finding) (a b : State) → blank a ≡ blank b → blank (report fs a) ≡ blank (report fs b)
report_like fs a b e = blank_report fs a ∙ ap (report fs) e ∙ sym (blank_report fs b)

set_block_lem : (o p : Open) (st : State) → blank_open o ≡ blank_open p → blank (set_block o st) ≡ blank (set_block p (blank st))
unfolding blank blank_place blank_metadata blank_kept blank_tables set_block set_place
set_block_lem o p st e = rw e (simp (length-replicate, blocks_twice, name_twice_lem))

start_block_lem : (o : Open) (st : State) → blank (set_block o st) ≡ blank (set_block o (blank st))
start_block_lem o st = set_block_lem o o st refl

text_block_lem : (ts us : List (List ℕ)) (st : State) → blank (set_block (text_open ts) st) ≡ blank (set_block (text_open us) (blank st))
unfolding blank_open
text_block_lem ts us st = set_block_lem (text_open ts) (text_open us) st refl

text_mode_block : (ts us : List (List ℕ)) (st : State) → blank (set_block (text_mode_open ts) st) ≡ blank (set_block (text_mode_open us) (blank st))
unfolding blank_open
text_mode_block ts us st = set_block_lem (text_mode_open ts) (text_mode_open us) st refl

pub blank_place_lem : (p : Place) (a : State) → blank (set_place p a) ≡ set_place (blank_place p) (blank a)
unfolding blank set_place
blank_place_lem p a = refl

set_place_lem : (p : Place) (a b : State) → blank a ≡ blank b → blank (set_place p a) ≡ blank (set_place p b)
set_place_lem p a b e = blank_place_lem p a ∙ ap (set_place (blank_place p)) e ∙ sym (blank_place_lem p b)

pub close_section_lem : (st : State) → blank (close_section st) ≡ blank (close_section (blank st))
unfolding close_section blank blank_place blank_metadata blank_kept blank_tables set_kept
close_section_lem st = rw (empty_section st.place) (go (is_empty_section st.place.section))
  where
    go : (b : Bool) → blank (pick b st (set_kept (record { sections = st.place.section ∷ st.kept.sections; blocks = st.kept.blocks; items = st.kept.items }) st))
        ≡ blank (pick b (blank st) (set_kept (record { sections = (blank st).place.section ∷ (blank st).kept.sections; blocks = (blank st).kept.blocks; items = (blank st).kept.items }) (blank st)))
    go true = sym (blank_twice st)
    go false = simp (length-replicate, blocks_twice, name_twice_lem, open_twice)

on_section_lem : (n : Option Text) (st : State) → blank (on_section n st) ≡ blank (on_section n (blank st))
unfolding on_section
on_section_lem n st = set_place_lem _ _ _ (close_section_lem st)

pub keep_block_lem : (b : Block) (n : ℕ) (st : State) → blank (keep_block b n st) ≡ blank (keep_block (blank_block b) n (blank st))
unfolding keep_block set_kept set_place blank blank_place blank_metadata blank_kept blank_tables blank_open each
keep_block_lem b n st = simp (length-replicate, blocks_twice, block_twice, name_twice_lem)

close_text_lem : (ts us : List (List ℕ)) (st : State) → blank (close_text ts st) ≡ blank (close_text us (blank st))
unfolding close_text keep_block set_kept set_place blank blank_place blank_metadata blank_kept blank_tables blank_open blank_block each
close_text_lem ts us st = simp (length-replicate, blocks_twice, name_twice_lem)

close_step_lem : (is js : List Item) (st : State) → blank (close_step is st) ≡ blank (close_step js (blank st))
unfolding close_step keep_block set_block set_kept set_place blank blank_place blank_metadata blank_kept blank_tables blank_open blank_block each
close_step_lem is js st = go (is_components st.modes.define)
  where
    go : (b : Bool) → blank (pick b (set_block no_block st) (keep_block (step_block st.place.step_counter is) (suc st.place.step_counter) st))
        ≡ blank (pick b (set_block no_block (blank st)) (keep_block (step_block st.place.step_counter js) (suc st.place.step_counter) (blank st)))
    go true = simp (length-replicate, blocks_twice, name_twice_lem)
    go false = simp (length-replicate, blocks_twice, name_twice_lem)

push_pieces_lem : (ps : List Piece) (is js : List Item) (st : State) → blank (push_pieces ps is st) ≡ blank (push_pieces ps js (blank st))
unfolding push_pieces push_items set_inline set_tables set_block set_kept set_place blank blank_place blank_metadata blank_kept blank_tables blank_open
push_pieces_lem ps is js st = simp (length-replicate, length-reverse_aux, blocks_twice, name_twice_lem)

push_component_lem : (k : Kind) (m : Made) (is js : List Item) (st : State) → blank (push_component k m is st) ≡ blank (push_component k m js (blank st))
unfolding push_component report push_items table_of set_table set_tables set_block set_kept set_place blank blank_place blank_metadata blank_kept blank_tables blank_open
push_component_lem ingredient m is js st = simp (length-replicate, blocks_twice, name_twice_lem)
push_component_lem cookware m is js st = simp (length-replicate, blocks_twice, name_twice_lem)

over_component : (k : Kind) (m : Made) (is js : List Item) (st : State) → over_limits (push_component k m is st) ≡ over_limits (push_component k m js (blank st))
over_component k m is js st = sym (over_blank (push_component k m is st)) ∙ ap over_limits (push_component_lem k m is js st) ∙ over_blank (push_component k m js (blank st))

next_like : (a b : State) → blank a ≡ blank b → blank_step (next a) ≡ blank_step (next b)
unfolding blank_step
next_like a b e = ap next e

settle_blank : (line : ℕ) (s : Step) → blank_walk (settle line s) ≡ blank_walk (settle line (blank_step s))
unfolding settle blank_step blank_walk
settle_blank line (stop n) = refl
settle_blank line (next st) = rw (over_blank st) (go (over_limits st))
  where
    go : (b : Bool) → blank_walk (pick b (refused 17 line) (going st)) ≡ blank_walk (pick b (refused 17 line) (going (blank st)))
    go true = refl
    go false = sym (walk_twice (going st))

settle_like : (line : ℕ) (a b : Step) → blank_step a ≡ blank_step b → blank_walk (settle line a) ≡ blank_walk (settle line b)
settle_like line a b e = settle_blank line a ∙ ap (λ (s : Step). blank_walk (settle line s)) e ∙ sym (settle_blank line b)

-- ---- components and texts of a step

module _ (cx : Context) where
  pub make_ingredient_lem : (c : Component) (i : Option Intermediate) (st : State) → make_ingredient cx c i (blank st) ≡ make_ingredient cx c i st
  unfolding make_ingredient made_by_name new_entry table_of blank blank_place blank_kept blank_tables
  make_ingredient_lem c None st = refl
  make_ingredient_lem c (Some i) st = simp (length-replicate, resolve_blank)

  pub make_cookware_lem : (c : Component) (st : State) → make_cookware cx.units cx.flags c (blank st) ≡ make_cookware cx.units cx.flags c st
  unfolding make_cookware made_by_name new_entry table_of blank blank_tables
  make_cookware_lem c st = refl

  on_made_lem : (k : Kind) (m : Made) (is js : List Item) (st : State) → blank_step (on_made k m is st) ≡ blank_step (on_made k m js (blank st))
  unfolding on_made unless_chained
  on_made_lem k m is js st = rw (over_component k m is js st) (go (refers_to_reference m.refers_to) (over_limits (push_component k m js (blank st))))
    where
      go : (a b : Bool) → blank_step (pick a (pick b (stop 17) (stop 18)) (next (push_component k m is st))) ≡ blank_step (pick a (pick b (stop 17) (stop 18)) (next (push_component k m js (blank st))))
      go true b = refl
      go false b = next_like _ _ (push_component_lem k m is js st)

  fault_step : (f : Option ℕ) (a b : Step) → blank_step a ≡ blank_step b → blank_step (unless_fault f a) ≡ blank_step (unless_fault f b)
  unfolding unless_fault
  fault_step None a b e = e
  fault_step (Some n) a b e = refl

  push_timer_lem : (n : Option Text) (q : Option Quantity) (is js : List Item) (st : State) → blank (push_timer cx.units cx.flags n q is st) ≡ blank (push_timer cx.units cx.flags n q js (blank st))
  unfolding push_timer report push_items set_timers set_tables set_block set_kept set_place blank blank_place blank_metadata blank_kept blank_tables blank_open
  push_timer_lem n q is js st = simp (length-replicate, blocks_twice, name_twice_lem)

  on_component_lem : (e : ComponentEvent) (is js : List Item) (st : State) → blank_step (on_component cx e is st) ≡ blank_step (on_component cx e js (blank st))
  unfolding on_component
  on_component_lem (ingredient_event c i) is js st = rw (make_ingredient_lem c i st) (fault_step _ _ _ (on_made_lem ingredient _ is js st))
  on_component_lem (cookware_event c) is js st = rw (make_cookware_lem c st) (on_made_lem cookware _ is js st)
  on_component_lem (timer_event s n q) is js st = next_like _ _ (push_timer_lem n q is js st)

  text_in_step_lem : (t : Text) (is js : List Item) (st : State) → blank (text_in_step cx.units cx.flags t is st) ≡ blank (text_in_step cx.units cx.flags t js (blank st))
  unfolding text_in_step blank
  text_in_step_lem t is js st = go (is_components st.modes.define)
    where
      go : (b : Bool) → blank (pick b (report (when (any is_alphanumeric t.content) (found 4 t.span)) st) (push_pieces (pieces cx.units cx.flags t.content) is st))
          ≡ blank (pick b (report (when (any is_alphanumeric t.content) (found 4 t.span)) (blank st)) (push_pieces (pieces cx.units cx.flags t.content) js (blank st)))
      go true = report_blank _ st
      go false = push_pieces_lem _ is js st

  in_step : (e : Inside) (is js : List Item) (st : State) → blank_step (in_step_block cx e is st) ≡ blank_step (in_step_block cx e js (blank st))
  unfolding in_step_block
  in_step (end_event step_kind) is js st = next_like _ _ (close_step_lem is js st)
  in_step (end_event text_kind) is js st = refl
  in_step (text_event t) is js st = next_like _ _ (text_in_step_lem t is js st)
  in_step (component_event c) is js st = on_component_lem c is js st

-- ---- texts

in_text : (e : Inside) (ts us : List (List ℕ)) (st : State) → blank_step (in_text_block e ts st) ≡ blank_step (in_text_block e us (blank st))
unfolding in_text_block
in_text (end_event step_kind) ts us st = refl
in_text (end_event text_kind) ts us st = next_like _ _ (close_text_lem ts us st)
in_text (text_event t) ts us st = next_like _ _ (text_block_lem (t.content ∷ ts) (t.content ∷ us) st)
in_text (component_event c) ts us st = refl

module _ (text : List ℕ) where
  in_text_mode_lem : (e : Inside) (ts us : List (List ℕ)) (st : State) → blank_step (in_text_mode text e ts st) ≡ blank_step (in_text_mode text e us (blank st))
  unfolding in_text_mode component_in_text
  in_text_mode_lem (end_event k) ts us st = next_like _ _ (close_text_lem ts us st)
  in_text_mode_lem (text_event t) ts us st = next_like _ _ (text_mode_block (t.content ∷ ts) (t.content ∷ us) st)
  in_text_mode_lem (component_event c) ts us st = next_like _ _ (report_like (found 5 (component_span c) ∷ []) _ _ (text_mode_block (source_text text (component_span c) ∷ ts) (source_text text (component_span c) ∷ us) st))

-- ---- `meta` lines

store_meta_lem : (k v : List ℕ) (n m : List Span) (st : State) → length n ≡ length m → blank (store_meta k v n st) ≡ blank (store_meta k v m (blank st))
unfolding store_meta set_metadata blank blank_place blank_metadata blank_kept blank_tables
store_meta_lem k v n m st e = rw e (simp (length-replicate, blocks_twice, name_twice_lem, open_twice))

set_modes_lem : (m : Modes) (st : State) → blank (set_modes m st) ≡ blank (set_modes m (blank st))
unfolding set_modes blank blank_place blank_metadata blank_kept blank_tables
set_modes_lem m st = simp (length-replicate, blocks_twice, name_twice_lem, open_twice)

on_define_lem : (k v : Text) (m : Option DefineMode) (st : State) → blank (on_define k v m st) ≡ blank (on_define k v m (blank st))
unfolding on_define blank
on_define_lem k v None st = report_blank _ st
on_define_lem k v (Some m) st = set_modes_lem _ st

on_duplicate_lem : (k v : Text) (m : Option DuplicateMode) (st : State) → blank (on_duplicate k v m st) ≡ blank (on_duplicate k v m (blank st))
unfolding on_duplicate blank
on_duplicate_lem k v None st = report_blank _ st
on_duplicate_lem k v (Some m) st = set_modes_lem _ st

on_key_lem : (key : Key) (k v : Text) (st : State) → blank (on_key key k v st) ≡ blank (on_key key k v (blank st))
unfolding on_key
on_key_lem (config define_key) k v st = on_define_lem k v _ st
on_key_lem (config duplicate_key) k v st = on_duplicate_lem k v _ st
on_key_lem unknown_config k v st = report_like _ _ _ (store_meta_lem _ _ _ _ st (old_count st))
on_key_lem ordinary k v st = store_meta_lem _ _ _ _ st (ap suc (old_count st))

-- ---- one line, and all of them

module _ (cx : Context) where
  on_inside_lem : (e : Inside) (o : Open) (st : State) → blank_step (on_inside cx e o st) ≡ blank_step (on_inside cx e (blank_open o) (blank st))
  unfolding on_inside blank_open
  on_inside_lem e no_block st = refl
  on_inside_lem e (step_open is) st = in_step cx e is [] st
  on_inside_lem e (text_open ts) st = in_text e ts [] st
  on_inside_lem e (text_mode_open ts) st = in_text_mode_lem cx.text e ts [] st

  on_between_lem : (b : Between) (st : State) → blank (on_between cx b st) ≡ blank (on_between cx b (blank st))
  unfolding on_between on_metadata blank
  on_between_lem (meta_event k v) st = on_key_lem _ k v st
  on_between_lem (section_event n) st = on_section_lem n st
  on_between_lem (start_event k) st = start_block_lem (opened st.modes.define k) st

  pub blank_event : (e : Event) (st : State) → blank_step (on_event cx e st) ≡ blank_step (on_event cx e (blank st))
  unfolding on_event blank blank_place
  blank_event (between b) st = rw (open_blank st.place.block) (go (is_open st.place.block))
    where
      go : (t : Bool) → blank_step (pick t (stop 11) (next (on_between cx b st))) ≡ blank_step (pick t (stop 11) (next (on_between cx b (blank st))))
      go true = refl
      go false = next_like _ _ (on_between_lem b st)
  blank_event (inside i) st = on_inside_lem i st.place.block st
  blank_event (parser_event s n) st = next_like _ _ (report_blank _ st)

  pub blank_step_lem : (line : ℕ) (e : Event) (w : Walk) → blank_walk (step cx line e w) ≡ blank_walk (step cx line e (blank_walk w))
  unfolding step blank_walk
  blank_step_lem line e (going st) = go (is_error_event e)
    where
      go : (t : Bool) → blank_walk (pick t (failed (parser_findings e ++ only_parsed st.findings)) (settle line (on_event cx e st)))
          ≡ blank_walk (pick t (failed (parser_findings e ++ only_parsed (blank st).findings)) (settle line (on_event cx e (blank st))))
      go true = ap (λ (fs : List Finding). blank_walk (failed (parser_findings e ++ only_parsed fs))) (sym (blank_findings st))
      go false = settle_like line _ _ (blank_event e st)
  blank_step_lem line e (failed fs) = refl
  blank_step_lem line e (refused n l) = refl

  -- a walk may go on from the blank state
  pub blank_walk_lem : (line : ℕ) (w : Walk) (es : List Event) → blank_walk (walk cx line w es) ≡ blank_walk (walk cx line (blank_walk w) es)
  unfolding walk
  blank_walk_lem line w [] = sym (walk_twice w)
  blank_walk_lem line w (e ∷ es) =
      blank_walk_lem (suc line) (step cx line e w) es
      ∙ ap (λ (v : Walk). blank_walk (walk cx (suc line) v es)) (blank_step_lem line e w)
      ∙ sym (blank_walk_lem (suc line) (step cx line e (blank_walk w)) es)

  -- one line more: what is left, from here, is the whole
  pub walk_on : (line : ℕ) (e : Event) (es : List Event) (w v r : Walk)
      → blank_walk (walk cx line w (e ∷ es)) ≡ r → blank_walk v ≡ blank_walk (step cx line e w)
      → blank_walk (walk cx (suc line) v es) ≡ r
  unfolding walk
  walk_on line e es w v r h q =
      blank_walk_lem (suc line) v es
      ∙ ap (λ (u : Walk). blank_walk (walk cx (suc line) u es)) q
      ∙ sym (blank_walk_lem (suc line) (step cx line e w) es)
      ∙ h
