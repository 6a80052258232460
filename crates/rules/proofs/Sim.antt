-- One line of a sheet and what it becomes in the plain form: the pass over the form keeps step, but for modes and findings.
use Prim.Native.Nat.{ℕ}
use mathlib.Core.Path.{◌≡◌, refl, ap}
use mathlib.Core.List.{List, [], ◌∷◌}
use mathlib.Core.Bool.{Bool, true, false, ◌&&◌}
use Rattle.std.specs.Prelude.{Option, None, Some}
use Rattle.rules.specs.Input.{Context}
use Rattle.rules.specs.Basic.{pick}
use Rattle.rules.specs.Words.{BlockKind, step_kind, text_kind, mild, define_key, duplicate_key, DefineMode, mode_all, mode_components, mode_steps, mode_text, DuplicateMode}
use Rattle.rules.specs.Event.{Text, Between, meta_event, section_event, start_event, end_event, text_event, Event, between, inside, parser_event}
use Rattle.rules.specs.Modes.{first_modes, is_components, is_text, has_modes, key_text, Key, config, unknown_config, ordinary, key_of}
use Rattle.rules.specs.Finding.{Finding}
use Rattle.rules.specs.Model.{Section}
use Rattle.rules.specs.State.{Open, no_block, step_open, text_open, text_mode_open, Metadata, Tables, Kept, State, set_modes, set_metadata, set_place, set_block, set_kept, set_tables, set_inline, report, Step, next, stop}
use Rattle.rules.specs.Metadata.{store_meta, on_define, on_duplicate, on_key, on_metadata}
use Rattle.rules.specs.Pass.{is_open, is_empty_section, close_section, on_section, opened, keep_block, close_text, close_step, push_items, push_pieces, text_in_step, in_step_block, in_text_block, in_text_mode, is_error_event, on_inside, on_between, on_event}
use Rattle.rules.specs.Plain.{unless_listed, in_plain_step, is_mode_key, plain_between, in_plain_text, plain_inside}

-- the state of the pass over the form, by the state over the sheet: text-mode blocks are text blocks, a components-mode step is none
abbrev pub form_open : DefineMode → Open → Open
form_open m no_block = no_block
form_open m (step_open is) = pick (is_components m) no_block (step_open is)
form_open m (text_open ts) = text_open ts
form_open m (text_mode_open ts) = text_open ts

abbrev pub as_form : List Finding → State → State
as_form fs st =
    record {
      modes = first_modes;
      metadata = st.metadata;
      place = record { section = st.place.section; step_counter = st.place.step_counter; block = form_open st.modes.define st.place.block };
      kept = st.kept;
      tables = st.tables;
      findings = fs;
    }

-- a state by its parts, so that the cases on its block and its mode compute
abbrev pub made : DefineMode → DuplicateMode → Metadata → Section → ℕ → Open → Kept → Tables → List Finding → State
made d u md s n o k t fs =
    record {
      modes = record { define = d; duplicate = u };
      metadata = md;
      place = record { section = s; step_counter = n; block = o };
      kept = k;
      tables = t;
      findings = fs;
    }

-- what the form's lines, none or one, make of its state `now`, where the sheet's line makes a step of its own
pub data Sim (cx : Context) (now : State) : Step → List Event → Type 0 where
  stopped : {n : ℕ} {es : List Event} → Sim cx now (stop n) es
  skips : {st : State} (fs : List Finding) → now ≡ as_form fs st → Sim cx now (next st) []
  goes : {st : State} {e : Event} (fs : List Finding) → is_error_event e ≡ false → on_event cx e now ≡ next (as_form fs st)
      → Sim cx now (next st) (e ∷ [])

module _ (cx : Context) where
  module _ (u : DuplicateMode) (md : Metadata) (s : Section) (n : ℕ) (k : Kept) (t : Tables) (fs fs' : List Finding) where
    abbrev M : DefineMode → Open → State
    M d o = made d u md s n o k t fs

    abbrev F : DefineMode → Open → State
    F d o = as_form fs' (M d o)

    abbrev S : DefineMode → Open → Event → List Event → Type 0
    S d o e es = Sim cx (F d o) (on_event cx e (M d o)) es

    -- ---- lines between blocks

    section_eq : (d : DefineMode) (name : Option Text) (b : Bool) → is_empty_section s ≡ b → on_section name (F d no_block) ≡ as_form fs' (on_section name (M d no_block))
    unfolding on_section close_section set_place set_kept first_modes
    section_eq d name true e = rw e
    section_eq d name false e = rw e

    start_sim : (d : DefineMode) (kind : BlockKind) → S d no_block (between (start_event kind)) (plain_between cx.flags (M d no_block) (start_event kind))
    unfolding on_event on_between is_open set_place set_block opened is_error_event first_modes plain_between unless_listed is_text is_components
    start_sim mode_all step_kind = goes fs' refl refl
    start_sim mode_steps step_kind = goes fs' refl refl
    start_sim mode_components step_kind = skips fs' refl
    start_sim mode_text step_kind = goes fs' refl refl
    start_sim mode_all text_kind = goes fs' refl refl
    start_sim mode_steps text_kind = goes fs' refl refl
    start_sim mode_components text_kind = goes fs' refl refl
    start_sim mode_text text_kind = goes fs' refl refl

    define_sim : (d : DefineMode) (a b : Text) (w : Option DefineMode) → Sim cx (F d no_block) (next (on_define a b w (M d no_block))) []
    unfolding on_define set_modes report first_modes
    define_sim d a b None = skips fs' refl
    define_sim d a b (Some m) = skips fs' refl

    duplicate_sim : (d : DefineMode) (a b : Text) (w : Option DuplicateMode) → Sim cx (F d no_block) (next (on_duplicate a b w (M d no_block))) []
    unfolding on_duplicate set_modes report first_modes
    duplicate_sim d a b None = skips fs' refl
    duplicate_sim d a b (Some m) = skips fs' refl

    abbrev kept_line : DefineMode → Text → Text → Key → Step
    kept_line d a b key = next (on_key key a b (F d no_block))

    key_sim : (d : DefineMode) (a b : Text) (h : Bool) (key : Key) → has_modes cx.flags ≡ h → key_of (key_text a) ≡ key
        → Sim cx (F d no_block) (next (on_key (pick h key ordinary) a b (M d no_block))) (pick (h && is_mode_key key) [] (between (meta_event a b) ∷ []))
    unfolding on_key on_event on_between is_open on_metadata set_modes set_metadata store_meta report is_error_event first_modes is_mode_key
    key_sim d a b true (config define_key) eh ek = define_sim d a b _
    key_sim d a b true (config duplicate_key) eh ek = duplicate_sim d a b _
    key_sim d a b true unknown_config eh ek =
        let q : pick (has_modes cx.flags) (key_of (key_text a)) ordinary ≡ unknown_config = rw (eh, ek) in goes _ refl (ap (kept_line d a b) q)
    key_sim d a b true ordinary eh ek =
        let q : pick (has_modes cx.flags) (key_of (key_text a)) ordinary ≡ ordinary = rw (eh, ek) in goes _ refl (ap (kept_line d a b) q)
    key_sim d a b false key eh ek =
        let q : pick (has_modes cx.flags) (key_of (key_text a)) ordinary ≡ ordinary = rw eh in goes _ refl (ap (kept_line d a b) q)

    -- outside blocks
    free_sim : (d : DefineMode) (b : Between) → S d no_block (between b) (plain_between cx.flags (M d no_block) b)
    unfolding on_event on_between is_open on_metadata is_error_event plain_between
    free_sim d (meta_event a b) = key_sim d a b (has_modes cx.flags) (key_of (key_text a)) refl refl
    free_sim d (section_event name) = goes fs' refl (ap next (section_eq d name (is_empty_section s) refl))
    free_sim d (start_event kind) = start_sim d kind

    pub between_sim : (d : DefineMode) (o : Open) (b : Between) → S d o (between b) (plain_between cx.flags (M d o) b)
    unfolding on_event is_open
    between_sim d no_block b = free_sim d b
    between_sim d (step_open is) b = stopped
    between_sim d (text_open ts) b = stopped
    between_sim d (text_mode_open ts) b = stopped

    -- ---- lines in a block that are no component

    pub end_sim : (d : DefineMode) (o : Open) (kind : BlockKind) → S d o (inside (end_event kind)) (plain_inside cx (M d o) (end_event kind) o)
    unfolding on_event on_inside in_step_block in_text_block in_text_mode close_text close_step keep_block set_place set_kept set_block is_error_event first_modes plain_inside in_plain_step in_plain_text unless_listed is_components
    end_sim d no_block kind = stopped
    end_sim mode_all (step_open is) step_kind = goes fs' refl refl
    end_sim mode_steps (step_open is) step_kind = goes fs' refl refl
    end_sim mode_components (step_open is) step_kind = skips fs' refl
    end_sim mode_text (step_open is) step_kind = goes fs' refl refl
    end_sim d (step_open is) text_kind = stopped
    end_sim d (text_open ts) step_kind = stopped
    end_sim d (text_open ts) text_kind = goes fs' refl refl
    end_sim d (text_mode_open ts) kind = goes fs' refl refl

    pub text_sim : (d : DefineMode) (o : Open) (x : Text) → S d o (inside (text_event x)) (plain_inside cx (M d o) (text_event x) o)
    unfolding on_event on_inside in_step_block in_text_block in_text_mode text_in_step push_pieces push_items set_inline report set_place set_kept set_tables set_block is_error_event first_modes plain_inside in_plain_step in_plain_text unless_listed is_components
    text_sim d no_block x = stopped
    text_sim mode_all (step_open is) x = goes fs' refl refl
    text_sim mode_steps (step_open is) x = goes fs' refl refl
    text_sim mode_components (step_open is) x = skips fs' refl
    text_sim mode_text (step_open is) x = goes fs' refl refl
    text_sim d (text_open ts) x = goes fs' refl refl
    text_sim d (text_mode_open ts) x = goes fs' refl refl

    -- ---- `warning` lines

    pub warning_sim : (d : DefineMode) (o : Open) (w : ℕ) → S d o (parser_event mild w) (parser_event mild w ∷ [])
    unfolding on_event report is_error_event first_modes
    warning_sim d o w = goes _ refl refl
