-- What the pass knows at a line is what the lines before it say: the modes, and the entries that are not marked as references.
use Prim.Native.Nat.{ℕ, suc}
use mathlib.Core.Path.{◌≡◌, refl, sym, ap, ◌∙◌, subst}
use mathlib.Core.List.{List, [], ◌∷◌}
use mathlib.Core.Bool.{Bool, true, false}
use Rattle.std.specs.Prelude.{Option, None, Some}
use lib.ListN.{length}
use Rattle.rules.specs.Basic.{pick, word_in}
use Rattle.rules.specs.Words.{ConfigKey, define_key, duplicate_key, config_keys, DefineMode, DuplicateMode}
use Rattle.rules.specs.Event.{Text, meta_event, Event, between}
use Rattle.rules.specs.Modes.{Modes, first_modes, is_text, has_modes, key_text, value_text, Key, config, unknown_config, ordinary, is_bracketed, key_as, key_of}
use Rattle.rules.specs.Model.{Kind, ingredient, cookware, Entry}
use Rattle.rules.specs.State.{Open, no_block, step_open, text_open, text_mode_open, Place, Tables, State, first_state, set_modes, set_metadata, table_of, report, Step, next, stop}
use Rattle.rules.specs.Metadata.{store_meta, on_define, on_duplicate, on_key, on_metadata}
use Rattle.rules.specs.Pass.{is_open}
use Rattle.rules.specs.Demand.{mode_key, value_of, defines_by, duplicates_by, or_else, define_at, duplicate_at, EntryLine, no_entry, entry_of_line, entry_in, unmarked_by, unmarked}
use Rattle.rules.proofs.Basics.{pick_either, no_truth}
use Rattle.rules.proofs.Linked.{Below, below_none, below_up, Listed, listed_none}

-- a text-mode block is open only in text mode, any other only outside it
abbrev pub Agrees : Open → Bool → Type 0
Agrees no_block b = Unit {0}
Agrees (step_open is) b = b ≡ false
Agrees (text_open ts) b = b ≡ false
Agrees (text_mode_open ts) b = b ≡ true

module _ (flags : ℕ) where
  pub record Knows (earlier : List Event) (st : State) : Type 0 where
    pub define : st.modes.define ≡ define_at flags earlier
    pub duplicate : st.modes.duplicate ≡ duplicate_at flags earlier
    pub block : Agrees st.place.block (is_text st.modes.define)
    pub tables : (k : Kind) → Listed (table_of k st) (unmarked flags k earlier)
    pub places : (k : Kind) → Below (length earlier) (unmarked flags k earlier)

  -- what a line makes of it
  abbrev pub KnowsStep : List Event → Step → Type 0
  KnowsStep earlier (next st) = Knows earlier st
  KnowsStep earlier (stop n) = Unit {0}

  pub first_knows : Knows [] first_state
  unfolding first_state first_modes define_at duplicate_at unmarked table_of
  first_knows = record { define = refl; duplicate = refl; block = tt; tables = both_none; places = λ k. below_none }
    where
      both_none : (k : Kind) → Listed (table_of k first_state) []
      both_none ingredient = listed_none
      both_none cookware = listed_none

  -- ---- lines that set no mode and are no entry

  unset : {A : Type 0} (h : Bool) (a : A) → or_else (pick h None None) a ≡ a
  unfolding or_else
  unset true a = refl
  unset false a = refl

  pub define_same : (e : Event) (earlier : List Event) → mode_key e ≡ None → define_at flags (e ∷ earlier) ≡ define_at flags earlier
  unfolding define_at defines_by
  define_same e earlier q = rw q (unset (has_modes flags) (define_at flags earlier))

  pub duplicate_same : (e : Event) (earlier : List Event) → mode_key e ≡ None → duplicate_at flags (e ∷ earlier) ≡ duplicate_at flags earlier
  unfolding duplicate_at duplicates_by
  duplicate_same e earlier q = rw q (unset (has_modes flags) (duplicate_at flags earlier))

  unmarked_same : (k : Kind) (e : Event) (earlier : List Event) → entry_in (define_at flags earlier) e ≡ no_entry
      → unmarked flags k (e ∷ earlier) ≡ unmarked flags k earlier
  unfolding unmarked unmarked_by
  unmarked_same k e earlier q = rw q

  pub no_entry_lem : (m : DefineMode) (e : Event) → entry_of_line e ≡ no_entry → entry_in m e ≡ no_entry
  unfolding entry_in
  no_entry_lem m e q = pick_either (λ (x : EntryLine). x ≡ no_entry) (is_text m) _ _ (λ b. refl) (λ b. q)

  pub text_entry : (m : DefineMode) (e : Event) → is_text m ≡ true → entry_in m e ≡ no_entry
  unfolding entry_in
  text_entry m e q = rw q

  table_is : (k : Kind) (st after : State) → after.tables.ingredients ≡ st.tables.ingredients → after.tables.cookware ≡ st.tables.cookware
      → table_of k after ≡ table_of k st
  unfolding table_of
  table_is ingredient st after i c = i
  table_is cookware st after i c = c

  module _ (earlier : List Event) (st : State) (h : Knows earlier st) (e : Event) where
    pub same_tables : entry_in (define_at flags earlier) e ≡ no_entry → (after : State) → after.tables.ingredients ≡ st.tables.ingredients
        → after.tables.cookware ≡ st.tables.cookware
        → (k : Kind) → Listed (table_of k after) (unmarked flags k (e ∷ earlier))
    same_tables x after i c k =
        subst (Listed (table_of k after)) (sym (unmarked_same k e earlier x))
        (subst (λ (l : List Entry). Listed l (unmarked flags k earlier)) (sym (table_is k st after i c)) (h.tables k))

    pub same_places : entry_in (define_at flags earlier) e ≡ no_entry → (k : Kind) → Below (length (e ∷ earlier)) (unmarked flags k (e ∷ earlier))
    same_places x k = subst (Below (suc (length earlier))) (sym (unmarked_same k e earlier x)) (below_up (h.places k))

    pub knows_same : mode_key e ≡ None → entry_in (define_at flags earlier) e ≡ no_entry → (after : State) → after.modes ≡ st.modes
        → after.tables.ingredients ≡ st.tables.ingredients → after.tables.cookware ≡ st.tables.cookware
        → Agrees after.place.block (is_text st.modes.define)
        → Knows (e ∷ earlier) after
    knows_same q x after m i c b =
        record {
          define = ap (λ (y : Modes). y.define) m ∙ h.define ∙ sym (define_same e earlier q);
          duplicate = ap (λ (y : Modes). y.duplicate) m ∙ h.duplicate ∙ sym (duplicate_same e earlier q);
          block = subst (λ (y : Modes). Agrees after.place.block (is_text y.define)) (sym m) b;
          tables = same_tables x after i c;
          places = same_places x;
        }

  -- ---- `meta` lines

  define_by : (k v : Text) (w : Option DefineMode) (st : State) → (on_define k v w st).modes.define ≡ or_else w st.modes.define
  unfolding on_define report set_modes or_else
  define_by k v None st = refl
  define_by k v (Some m) st = refl

  define_other : (k v : Text) (w : Option DuplicateMode) (st : State) → (on_duplicate k v w st).modes.define ≡ st.modes.define
  unfolding on_duplicate report set_modes
  define_other k v None st = refl
  define_other k v (Some m) st = refl

  duplicate_by : (k v : Text) (w : Option DuplicateMode) (st : State) → (on_duplicate k v w st).modes.duplicate ≡ or_else w st.modes.duplicate
  unfolding on_duplicate report set_modes or_else
  duplicate_by k v None st = refl
  duplicate_by k v (Some m) st = refl

  duplicate_other : (k v : Text) (w : Option DefineMode) (st : State) → (on_define k v w st).modes.duplicate ≡ st.modes.duplicate
  unfolding on_define report set_modes
  duplicate_other k v None st = refl
  duplicate_other k v (Some m) st = refl

  key_define : (h : Bool) (o : Option ConfigKey) (b : Bool) (k v : Text) (st : State)
      → (on_key (pick h (key_as o b) ordinary) k v st).modes.define ≡ or_else (pick h (defines_by o (value_text v)) None) st.modes.define
  unfolding on_key key_as defines_by or_else store_meta set_metadata report
  key_define false o b k v st = refl
  key_define true (Some define_key) b k v st = define_by k v _ st
  key_define true (Some duplicate_key) b k v st = define_other k v _ st
  key_define true None true k v st = refl
  key_define true None false k v st = refl

  key_duplicate : (h : Bool) (o : Option ConfigKey) (b : Bool) (k v : Text) (st : State)
      → (on_key (pick h (key_as o b) ordinary) k v st).modes.duplicate ≡ or_else (pick h (duplicates_by o (value_text v)) None) st.modes.duplicate
  unfolding on_key key_as duplicates_by or_else store_meta set_metadata report
  key_duplicate false o b k v st = refl
  key_duplicate true (Some define_key) b k v st = duplicate_other k v _ st
  key_duplicate true (Some duplicate_key) b k v st = duplicate_by k v _ st
  key_duplicate true None true k v st = refl
  key_duplicate true None false k v st = refl

  -- what a `meta` line leaves alone
  record Left (st after : State) : Type 0 where
    place_is : after.place ≡ st.place
    tables_are : after.tables ≡ st.tables

  define_left : (k v : Text) (w : Option DefineMode) (st : State) → Left st (on_define k v w st)
  unfolding on_define report set_modes
  define_left k v None st = record { place_is = refl; tables_are = refl }
  define_left k v (Some m) st = record { place_is = refl; tables_are = refl }

  duplicate_left : (k v : Text) (w : Option DuplicateMode) (st : State) → Left st (on_duplicate k v w st)
  unfolding on_duplicate report set_modes
  duplicate_left k v None st = record { place_is = refl; tables_are = refl }
  duplicate_left k v (Some m) st = record { place_is = refl; tables_are = refl }

  key_left : (key : Key) (k v : Text) (st : State) → Left st (on_key key k v st)
  unfolding on_key store_meta set_metadata report
  key_left (config define_key) k v st = define_left k v _ st
  key_left (config duplicate_key) k v st = duplicate_left k v _ st
  key_left unknown_config k v st = record { place_is = refl; tables_are = refl }
  key_left ordinary k v st = record { place_is = refl; tables_are = refl }

  no_block_lem : (o : Open) (a b : Bool) → is_open o ≡ false → Agrees o b
  unfolding is_open
  no_block_lem no_block a b q = tt
  no_block_lem (step_open is) a b q = no_truth (sym q)
  no_block_lem (text_open ts) a b q = no_truth (sym q)
  no_block_lem (text_mode_open ts) a b q = no_truth (sym q)

  pub meta_knows : (earlier : List Event) (st : State) → Knows earlier st → is_open st.place.block ≡ false → (k v : Text)
      → Knows (between (meta_event k v) ∷ earlier) (on_metadata flags k v st)
  unfolding on_metadata
  meta_knows earlier st h q k v =
      record {
        define = unfold key_of define_at mode_key value_of in
            (key_define (has_modes flags) (word_in (key_text k) config_keys) (is_bracketed (key_text k)) k v st
            ∙ ap (or_else (pick (has_modes flags) (defines_by (word_in (key_text k) config_keys) (value_text v)) None)) h.define);
        duplicate = unfold key_of duplicate_at mode_key value_of in
            (key_duplicate (has_modes flags) (word_in (key_text k) config_keys) (is_bracketed (key_text k)) k v st
            ∙ ap (or_else (pick (has_modes flags) (duplicates_by (word_in (key_text k) config_keys) (value_text v)) None)) h.duplicate);
        block = no_block_lem _ true _ (ap (λ (p : Place). is_open p.block) left.place_is ∙ q);
        tables = same_tables earlier st h e none_here after (ap (λ (t : Tables). t.ingredients) left.tables_are)
            (ap (λ (t : Tables). t.cookware) left.tables_are);
        places = same_places earlier st h e none_here;
      }
    where
      e : Event
      e = between (meta_event k v)

      after : State
      after = on_key (pick (has_modes flags) (key_of (key_text k)) ordinary) k v st

      left : Left st after
      left = key_left (pick (has_modes flags) (key_of (key_text k)) ordinary) k v st

      none_here : entry_in (define_at flags earlier) e ≡ no_entry
      none_here = no_entry_lem (define_at flags earlier) e (unfold entry_of_line in refl)
