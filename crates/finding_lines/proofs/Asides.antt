-- What a line of the pass leaves alone: only `meta` lines change the metadata, and only lines of the parser its findings.
use Prim.Native.Nat.{ℕ, zero, suc}
use mathlib.Core.Path.{◌≡◌, refl, ◌∙◌}
use mathlib.Core.Bool.{Bool, true, false, ◌&&◌, not}
use mathlib.Core.List.{List, [], ◌∷◌, ◌++◌, reverse_aux}
use Rattle.std.specs.Prelude.{Option, None, Some}
use native.Mathlib.Omega.{arith}
use Rattle.rules.specs.Input.{Context}
use Rattle.rules.specs.Basic.{pick, when}
use Rattle.rules.specs.Words.{BlockKind, step_kind, text_kind, define_key, duplicate_key, DefineMode, DuplicateMode}
use Rattle.rules.specs.Event.{Span, Text, Quantity, Component, Intermediate, ComponentEvent, ingredient_event, cookware_event, timer_event, Inside, end_event, text_event, component_event}
use Rattle.rules.specs.Units.{NamedUnit, PhysicalQuantity}
use Rattle.rules.specs.Finding.{Finding, diag, parsed, only_parsed}
use Rattle.rules.specs.Model.{Kind, ingredient, cookware, is_ingredient, Amount, Source, Entry, Item, InlineQuantity, Timer, Block}
use Rattle.rules.specs.Modes.{Modes, Key, config, unknown_config, ordinary, is_components, has_advanced_units}
use Rattle.rules.specs.Reference.{Earlier, entry_at, referrers, redundant_new, redundant_ref, conflict_or_missing, treat_as_reference, reference_findings, is_explicit}
use Rattle.rules.specs.Checks.{unit_finding, unit_pair, unit_against, units_against, unit_check, note_check, text_check, quantity_check, reference_checks, intermediate_modifiers, intermediate_findings}
use Rattle.rules.specs.Components.{Made, lock_findings, checks_after, made_with, made_by_name, made_intermediate, make_ingredient, make_cookware, time_unit, timer_unit, timer_checks, timer_findings, intermediate_fault, refers_to_reference}
use Rattle.rules.specs.State.{Open, no_block, step_open, text_open, text_mode_open, State, set_modes, set_metadata, set_place, set_block, set_kept, set_tables, set_table, set_timers, set_inline, report, over_limits, Step, next, stop}
use Rattle.rules.specs.Metadata.{store_meta, bad_value, on_define, on_duplicate, on_key, on_metadata}
use Rattle.rules.specs.Pass.{is_empty_section, close_section, on_section, opened, keep_block, close_text, close_step, push_items, push_pieces, push_component, unless_chained, unless_fault, pieces, text_in_step, push_timer, on_made, on_component, in_step_block, in_text_block, component_in_text, in_text_mode, on_inside}
use Rattle.rules.proofs.Basics.{pick_either}

-- ---- findings of the pass alone

abbrev pub NoParsed : List Finding → Type 0
NoParsed fs = only_parsed fs ≡ []

none_parsed : NoParsed []
unfolding only_parsed
none_parsed = refl

one_diag : (c : ℕ) (ss : List Span) (i : Bool) → NoParsed (diag c ss i ∷ [])
unfolding only_parsed
one_diag c ss i = refl

both : (a b : List Finding) → NoParsed a → NoParsed b → NoParsed (a ++ b)
unfolding only_parsed
both [] b p q = q
both (diag c s i ∷ a) b p q = both a b p q
both (parsed s n ∷ a) b p q = absurd (let z : ◌≡◌ {A = ℕ} 0 1 = cc in omega arith)

when_diag : (t : Bool) (c : ℕ) (ss : List Span) (i : Bool) → NoParsed (when t (diag c ss i))
unfolding when
when_diag true c ss i = one_diag c ss i
when_diag false c ss i = none_parsed

either : (t : Bool) (a b : List Finding) → NoParsed a → NoParsed b → NoParsed (pick t a b)
either true a b p q = p
either false a b p q = q

lock_quiet : (q : Option Quantity) → NoParsed (lock_findings q)
unfolding lock_findings
lock_quiet None = none_parsed
lock_quiet (Some q) = when_diag q.lock 6 _ false

-- ---- references

module _ (modes : Modes) (new : Entry) where
  missing_quiet : (inherit : _) (same : Option Earlier) → NoParsed (conflict_or_missing modes new inherit same)
  unfolding conflict_or_missing
  missing_quiet inherit None = one_diag 14 _ _
  missing_quiet inherit (Some d) = when_diag _ 13 _ _

  reference_quiet : (inherit : _) (same : Option Earlier) → NoParsed (reference_findings modes new inherit same)
  unfolding reference_findings redundant_new redundant_ref
  reference_quiet inherit same =
      either new.modifiers.new _ _ (either (is_explicit modes new) _ _ (one_diag 10 _ _) (when_diag _ 11 _ _))
      (both _ _ (when_diag _ 12 _ _) (either (treat_as_reference modes new same) _ _ (missing_quiet inherit same) none_parsed))

-- ---- the checks after a reference

unit_quiet : (code : ℕ) (ss : List Span) → NoParsed (unit_finding code ss)
unfolding unit_finding
unit_quiet zero ss = none_parsed
unit_quiet (suc code) ss = one_diag (suc code) ss false

module _ (units : List NamedUnit) where
  pair_quiet : (new : Entry) (a b : Option Amount) (old : Entry) → NoParsed (unit_pair units new a b old)
  unfolding unit_pair
  pair_quiet new None q old = none_parsed
  pair_quiet new (Some a) None old = none_parsed
  pair_quiet new (Some a) (Some b) old = unit_quiet _ _

  against_quiet : (new : Entry) (old : Option Entry) → NoParsed (unit_against units new old)
  unfolding unit_against
  against_quiet new None = none_parsed
  against_quiet new (Some old) = pair_quiet new _ _ old

  all_quiet : (new : Entry) (table : List Entry) (is : List ℕ) → NoParsed (units_against units new table is)
  unfolding units_against
  all_quiet new table [] = none_parsed
  all_quiet new table (i ∷ is) = both _ _ (against_quiet new (entry_at i table)) (all_quiet new table is)

note_quiet : (i : Bool) (n : Option Text) (d : Source) → NoParsed (note_check i n d)
unfolding note_check
note_quiet i None d = none_parsed
note_quiet i (Some n) d = one_diag 18 _ i

text_quiet : (i a b : Bool) (s t : Span) → NoParsed (text_check i a b s t)
unfolding text_check
text_quiet i true true s t = none_parsed
text_quiet i true false s t = one_diag 20 _ i
text_quiet i false true s t = one_diag 20 _ i
text_quiet i false false s t = none_parsed

quantity_quiet : (i : Bool) (s : Source) (d : Entry) (a b : Option Amount) → NoParsed (quantity_check i s d a b)
unfolding quantity_check
quantity_quiet i s d None q = none_parsed
quantity_quiet i s d (Some a) None = none_parsed
quantity_quiet i s d (Some a) (Some b) = both _ _ (when_diag _ 19 _ i) (text_quiet i _ _ _ _)

checks_quiet : (i : Bool) (new d : Entry) → NoParsed (reference_checks i new d)
unfolding reference_checks
checks_quiet i new d = both _ _ (note_quiet i _ _) (quantity_quiet i _ d _ _)

-- ---- components

module _ (cx : Context) where
  after_quiet : (k : Kind) (new : Entry) (table : List Entry) (d : Option Earlier) → NoParsed (checks_after cx.units cx.flags k new table d)
  unfolding checks_after unit_check
  after_quiet k new table None = none_parsed
  after_quiet k new table (Some d) =
      both (pick (is_ingredient k && has_advanced_units cx.flags) (units_against cx.units new table (d.index ∷ referrers d.entry.relation)) []) (reference_checks (not new.modifiers.ref) new d.entry)
      (either (is_ingredient k && has_advanced_units cx.flags) _ _ (all_quiet cx.units new table _) none_parsed) (checks_quiet _ new d.entry)

  named_quiet : (k : Kind) (c : Component) (st : State) → NoParsed (made_by_name cx.units cx.flags k c st).findings
  unfolding made_by_name made_with
  named_quiet k c st = both _ _ (both _ _ (lock_quiet c.quantity) (reference_quiet st.modes _ _ _)) (after_quiet k _ _ _)

  target_quiet : (i : Intermediate) (o : Option ℕ) → NoParsed (intermediate_findings i o)
  unfolding intermediate_findings
  target_quiet i None = one_diag _ _ false
  target_quiet i (Some j) = none_parsed

  ingredient_quiet : (c : Component) (i : Option Intermediate) (st : State) → NoParsed (make_ingredient cx c i st).findings
  unfolding make_ingredient made_intermediate intermediate_modifiers
  ingredient_quiet c None st = named_quiet ingredient c st
  ingredient_quiet c (Some i) st = both _ _ (both _ _ (lock_quiet c.quantity) (when_diag _ 7 _ false)) (target_quiet i _)

  time_quiet : (s : Span) (o : Option PhysicalQuantity) → NoParsed (time_unit cx.units cx.flags s o)
  unfolding time_unit
  time_quiet s None = one_diag 23 _ false
  time_quiet s (Some p) = when_diag _ 22 _ false

  timer_unit_quiet : (o : Option Text) → NoParsed (timer_unit cx.units cx.flags o)
  unfolding timer_unit
  timer_unit_quiet None = none_parsed
  timer_unit_quiet (Some t) = time_quiet t.span _

  timer_checks_quiet : (q : Option Quantity) → NoParsed (timer_checks cx.units cx.flags q)
  unfolding timer_checks
  timer_checks_quiet None = none_parsed
  timer_checks_quiet (Some q) = both _ _ (when_diag _ 21 _ false) (timer_unit_quiet q.unit)

  timer_quiet : (q : Option Quantity) → NoParsed (timer_findings cx.units cx.flags q)
  unfolding timer_findings
  timer_quiet q = both _ _ (lock_quiet q) (either (has_advanced_units cx.flags) _ _ (timer_checks_quiet q) none_parsed)

-- ---- states

-- a is st but for what it is not asked about here
pub record Aside (st a : State) : Type 0 where
  pub metadata : a.metadata ≡ st.metadata
  pub parsers : only_parsed a.findings ≡ only_parsed st.findings

same : {st : State} → Aside st st
same = record { metadata = refl; parsers = refl }

then : {st a b : State} → Aside st a → Aside a b → Aside st b
then p q = record { metadata = q.metadata ∙ p.metadata; parsers = q.parsers ∙ p.parsers }

reverse_quiet : (fs gs : List Finding) → NoParsed fs → only_parsed (reverse_aux fs gs) ≡ only_parsed gs
unfolding only_parsed
reverse_quiet [] gs p = refl
reverse_quiet (diag c s i ∷ fs) gs p = reverse_quiet fs (diag c s i ∷ gs) p
reverse_quiet (parsed s n ∷ fs) gs p = absurd (let z : ◌≡◌ {A = ℕ} 0 1 = cc in omega arith)

pub reported : (fs : List Finding) (st : State) → NoParsed fs → Aside st (report fs st)
unfolding report
reported fs st p = record { metadata = refl; parsers = reverse_quiet fs st.findings p }

block_aside : (o : Open) (st : State) → Aside st (set_block o st)
unfolding set_block set_place
block_aside o st = record { metadata = refl; parsers = refl }

items_aside : (new is : List Item) (st : State) → Aside st (push_items new is st)
unfolding push_items set_block set_place set_kept
items_aside new is st = record { metadata = refl; parsers = refl }

inline_aside : (qs : List InlineQuantity) (st : State) → Aside st (set_inline qs st)
unfolding set_inline set_tables
inline_aside qs st = record { metadata = refl; parsers = refl }

timers_aside : (ts : List Timer) (st : State) → Aside st (set_timers ts st)
unfolding set_timers set_tables
timers_aside ts st = record { metadata = refl; parsers = refl }

table_aside : (k : Kind) (es : List Entry) (st : State) → Aside st (set_table k es st)
unfolding set_table set_tables
table_aside ingredient es st = record { metadata = refl; parsers = refl }
table_aside cookware es st = record { metadata = refl; parsers = refl }

keep_aside : (b : Block) (n : ℕ) (st : State) → Aside st (keep_block b n st)
unfolding keep_block set_place set_kept
keep_aside b n st = record { metadata = refl; parsers = refl }

pub close_aside : (st : State) → Aside st (close_section st)
unfolding close_section set_kept
close_aside st = pick_either (Aside st) (is_empty_section st.place.section) _ _ (λ _. same) (λ _. record { metadata = refl; parsers = refl })

pub section_aside : (n : Option Text) (st : State) → Aside st (on_section n st)
unfolding on_section set_place
section_aside n st = then (close_aside st) (record { metadata = refl; parsers = refl })

pub start_aside : (k : BlockKind) (st : State) → Aside st (set_block (opened st.modes.define k) st)
start_aside k st = block_aside _ st

-- ---- steps

abbrev pub AsideStep : State → Step → Type 0
AsideStep st (next a) = Aside st a
AsideStep st (stop n) = Unit {0}

chained_aside : {st a : State} (m : Made) → Aside st a → AsideStep st (unless_chained m a)
unfolding unless_chained
chained_aside {st} {a} m p =
    pick_either (AsideStep st) (refers_to_reference m.refers_to) _ _ (λ _. pick_either (AsideStep st) (over_limits a) _ _ (λ _. tt) (λ _. tt)) (λ _. p)

fault_aside : (st : State) (o : Option ℕ) (s : Step) → AsideStep st s → AsideStep st (unless_fault o s)
unfolding unless_fault
fault_aside st None s p = p
fault_aside st (Some n) s p = tt

component_pushed : (k : Kind) (m : Made) (is : List Item) (st : State) → NoParsed m.findings → Aside st (push_component k m is st)
unfolding push_component
component_pushed k m is st p = then (then (table_aside k _ st) (items_aside _ is _)) (reported m.findings _ p)

module _ (cx : Context) where
  pieces_aside : (t : List ℕ) (is : List Item) (st : State) → Aside st (push_pieces (pieces cx.units cx.flags t) is st)
  unfolding push_pieces
  pieces_aside t is st = then (inline_aside _ st) (items_aside _ is _)

  text_aside : (t : Text) (is : List Item) (st : State) → Aside st (text_in_step cx.units cx.flags t is st)
  unfolding text_in_step
  text_aside t is st =
      pick_either (Aside st) (is_components st.modes.define) _ _ (λ _. reported _ st (when_diag _ 4 _ false)) (λ _. pieces_aside t.content is st)

  timer_aside : (n : Option Text) (q : Option Quantity) (is : List Item) (st : State) → Aside st (push_timer cx.units cx.flags n q is st)
  unfolding push_timer
  timer_aside n q is st = then (then (timers_aside _ st) (items_aside _ is _)) (reported _ _ (timer_quiet cx q))

  made_aside : (k : Kind) (m : Made) (is : List Item) (st : State) → NoParsed m.findings → AsideStep st (on_made k m is st)
  unfolding on_made
  made_aside k m is st p = chained_aside m (component_pushed k m is st p)

  component_aside : (c : ComponentEvent) (is : List Item) (st : State) → AsideStep st (on_component cx c is st)
  unfolding on_component make_cookware
  component_aside (ingredient_event c i) is st = fault_aside st (intermediate_fault c i) _ (made_aside ingredient _ is st (ingredient_quiet cx c i st))
  component_aside (cookware_event c) is st = made_aside cookware _ is st (named_quiet cx cookware c st)
  component_aside (timer_event s n q) is st = timer_aside n q is st

  close_step_aside : (is : List Item) (st : State) → Aside st (close_step is st)
  unfolding close_step
  close_step_aside is st = pick_either (Aside st) (is_components st.modes.define) _ _ (λ _. block_aside no_block st) (λ _. keep_aside _ _ st)

  step_aside : (i : Inside) (is : List Item) (st : State) → AsideStep st (in_step_block cx i is st)
  unfolding in_step_block
  step_aside (end_event step_kind) is st = close_step_aside is st
  step_aside (end_event text_kind) is st = tt
  step_aside (text_event t) is st = text_aside t is st
  step_aside (component_event c) is st = component_aside c is st

close_text_aside : (ts : List (List ℕ)) (st : State) → Aside st (close_text ts st)
unfolding close_text
close_text_aside ts st = keep_aside _ _ st

block_text_aside : (i : Inside) (ts : List (List ℕ)) (st : State) → AsideStep st (in_text_block i ts st)
unfolding in_text_block
block_text_aside (end_event step_kind) ts st = tt
block_text_aside (end_event text_kind) ts st = close_text_aside ts st
block_text_aside (text_event t) ts st = block_aside _ st
block_text_aside (component_event c) ts st = tt

mode_aside : (text : List ℕ) (i : Inside) (ts : List (List ℕ)) (st : State) → AsideStep st (in_text_mode text i ts st)
unfolding in_text_mode component_in_text
mode_aside text (end_event k) ts st = close_text_aside ts st
mode_aside text (text_event t) ts st = block_aside _ st
mode_aside text (component_event c) ts st = then (block_aside _ st) (reported _ _ (one_diag 5 _ false))

pub inside_aside : (cx : Context) (i : Inside) (o : Open) (st : State) → AsideStep st (on_inside cx i o st)
unfolding on_inside
inside_aside cx i no_block st = tt
inside_aside cx i (step_open is) st = step_aside cx i is st
inside_aside cx i (text_open ts) st = block_text_aside i ts st
inside_aside cx i (text_mode_open ts) st = mode_aside cx.text i ts st

-- ---- `meta` lines

define_parsers : (k v : Text) (o : Option DefineMode) (st : State) → only_parsed (on_define k v o st).findings ≡ only_parsed st.findings
unfolding on_define set_modes bad_value
define_parsers k v None st = (reported _ st (one_diag 1 _ false)).parsers
define_parsers k v (Some m) st = refl

duplicate_parsers : (k v : Text) (o : Option DuplicateMode) (st : State) → only_parsed (on_duplicate k v o st).findings ≡ only_parsed st.findings
unfolding on_duplicate set_modes bad_value
duplicate_parsers k v None st = (reported _ st (one_diag 1 _ false)).parsers
duplicate_parsers k v (Some m) st = refl

key_parsers : (key : Key) (k v : Text) (st : State) → only_parsed (on_key key k v st).findings ≡ only_parsed st.findings
unfolding on_key store_meta set_metadata
key_parsers (config define_key) k v st = define_parsers k v _ st
key_parsers (config duplicate_key) k v st = duplicate_parsers k v _ st
key_parsers unknown_config k v st = (reported _ (store_meta _ _ st.metadata.old st) (one_diag 2 _ false)).parsers
key_parsers ordinary k v st = refl

pub meta_parsers : (flags : ℕ) (k v : Text) (st : State) → only_parsed (on_metadata flags k v st).findings ≡ only_parsed st.findings
unfolding on_metadata
meta_parsers flags k v st = key_parsers _ k v st
