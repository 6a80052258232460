-- The words of demand 3 (document 01, "The plain form", second paragraph), read off the lines of a sheet, without the state of
-- the pass. A line is looked at with the lines before it, newest first.
use Rattle.std.specs.Prelude.{ℕ, List, [], ◌∷◌, Bool, true, false, ◌&&◌, ◌||◌, not, leb, length, Option, None, Some}
use Rattle.rules.specs.Basic.{pick, eq_list, any, is_some, word_in}
use Rattle.rules.specs.Unicode.{fold_name}
use Rattle.rules.specs.Input.{Input, with_sheet}
use Rattle.rules.specs.Words.{DefineMode, DuplicateMode, define_words, duplicate_words, ConfigKey, define_key, duplicate_key, config_keys}
use Rattle.rules.specs.Event.{Component, Event, Inside, meta_event, section_event, start_event, end_event, text_event, component_event, ComponentEvent, ingredient_event, cookware_event, timer_event, between, inside, parser_event}
use Rattle.rules.specs.Model.{Kind, ingredient, cookware, entry_of}
use Rattle.rules.specs.Modes.{first_modes, is_steps, is_text, is_reference, has_modes, key_text, value_text}
use Rattle.rules.specs.Reference.{eq_bool}
use Rattle.rules.specs.State.{Outcome, recipe, no_recipe, refusal}
use Rattle.rules.specs.Pass.{is_error_event}
use Rattle.rules.specs.Answer.{collection, gives17}

-- "*Accepted*: the collection, lent room enough, refuses by no number."
unfoldable pub is_accepted : Outcome → Bool
is_accepted (recipe st) = true
is_accepted (no_recipe fs) = true
is_accepted (refusal n l) = false

-- "It *yields a recipe* if it has no `error` line."
unfoldable pub yields_recipe : List Event → Bool
yields_recipe es = not (any is_error_event es)

-- "*Within the limits*: 24 does not arise."
unfoldable pub is_within_limits : List ℕ → Input → Bool
is_within_limits form i = leb (length form) 65536 && not (gives17 (collection (with_sheet form i)))

-- "*Component*: an `ingredient`, `cookware` or `timer` line."
unfoldable pub is_component_inside : Inside → Bool
is_component_inside (end_event k) = false
is_component_inside (text_event t) = false
is_component_inside (component_event c) = true

unfoldable pub is_component_line : Event → Bool
is_component_line (between b) = false
is_component_line (inside i) = is_component_inside i
is_component_line (parser_event s n) = false

-- ---- modes

-- "*Mode line*: a `meta` line whose key, as the pass trims it, is one of the three above": its key
unfoldable pub mode_key : Event → Option ConfigKey
mode_key (between (meta_event k v)) = word_in (key_text k) config_keys
mode_key (between (section_event n)) = None
mode_key (between (start_event k)) = None
mode_key (inside i) = None
mode_key (parser_event s n) = None

unfoldable pub is_mode_line : Event → Bool
is_mode_line e = is_some (mode_key e)

-- "the flags heed it if 1 is set"
unfoldable pub is_heeded : ℕ → Event → Bool
is_heeded flags e = has_modes flags && is_mode_line e

-- the value of a `meta` line as the pass trims it
unfoldable pub value_of : Event → List ℕ
value_of (between (meta_event k v)) = value_text v
value_of (between (section_event n)) = []
value_of (between (start_event k)) = []
value_of (inside i) = []
value_of (parser_event s n) = []

-- the mode that a heeded line with a valid value sets
unfoldable pub defines_by : Option ConfigKey → List ℕ → Option DefineMode
defines_by None v = None
defines_by (Some define_key) v = word_in v define_words
defines_by (Some duplicate_key) v = None

unfoldable pub duplicates_by : Option ConfigKey → List ℕ → Option DuplicateMode
duplicates_by None v = None
duplicates_by (Some define_key) v = None
duplicates_by (Some duplicate_key) v = word_in v duplicate_words

module _ {A : Type 0} where
  unfoldable pub or_else : Option A → A → A
  or_else None b = b
  or_else (Some a) b = a

-- "The mode at a line comes from the last heeded `[mode]` or `[define]` line before it with a valid value; before any such
-- line it is the one the Rust starts in." So for `[duplicate]`.
module _ (flags : ℕ) where
  unfoldable pub define_at : List Event → DefineMode
  define_at [] = first_modes.define
  define_at (e ∷ earlier) = or_else (pick (has_modes flags) (defines_by (mode_key e) (value_of e)) None) (define_at earlier)

  unfoldable pub duplicate_at : List Event → DuplicateMode
  duplicate_at [] = first_modes.duplicate
  duplicate_at (e ∷ earlier) = or_else (pick (has_modes flags) (duplicates_by (mode_key e) (value_of e)) None) (duplicate_at earlier)

-- ---- entries

-- an `ingredient` or `cookware` line
pub data EntryLine : Type 0 where
  entry_line : Kind → Component → EntryLine
  no_entry : EntryLine

unfoldable pub entry_of_component : ComponentEvent → EntryLine
entry_of_component (ingredient_event c i) = entry_line ingredient c
entry_of_component (cookware_event c) = entry_line cookware c
entry_of_component (timer_event s n q) = no_entry

unfoldable pub entry_of_line : Event → EntryLine
entry_of_line (between b) = no_entry
entry_of_line (inside (end_event k)) = no_entry
entry_of_line (inside (text_event t)) = no_entry
entry_of_line (inside (component_event c)) = entry_of_component c
entry_of_line (parser_event s n) = no_entry

-- an entry that is not marked as a reference: how many lines stand before it, its folded name, whether it has OPT
pub record Unmarked : Type 0 where
  pub place : ℕ
  pub folded : List ℕ
  pub is_opt : Bool

unfoldable pub folded_name : Kind → Component → List ℕ
folded_name k c = fold_name (entry_of k true c).name

-- "a name is looked for among those of its kind and compared as in the same-name search": the last of this name with this OPT,
-- and the last of this name
module _ (folded : List ℕ) where
  module _ (is_opt : Bool) where
    unfoldable pub last_fitting : List Unmarked → Option Unmarked
    last_fitting [] = None
    last_fitting (u ∷ us) = pick (eq_bool u.is_opt is_opt && eq_list u.folded folded) (Some u) (last_fitting us)

  unfoldable pub last_named : List Unmarked → Option Unmarked
  last_named [] = None
  last_named (u ∷ us) = pick (eq_list u.folded folded) (Some u) (last_named us)

-- "*Implicit reference*: an entry without REF on its line that the rules make a reference to an earlier entry": without NEW, in
-- steps mode or with `[duplicate]` reference, where an earlier entry fits; and which one
unfoldable pub implicit_target : DefineMode → DuplicateMode → Kind → Component → List Unmarked → Option Unmarked
implicit_target m d k c us =
    pick (not c.modifiers.ref && not c.modifiers.new && (is_steps m || is_reference d))
    (last_fitting (folded_name k c) c.modifiers.opt us) None

-- "An *explicit* one has REF on its line. *Marked as a reference*: with REF on its line, or an implicit reference."
unfoldable pub is_marked : DefineMode → DuplicateMode → Kind → Component → List Unmarked → Bool
is_marked m d k c us = c.modifiers.ref || is_some (implicit_target m d k c us)

unfoldable pub same_kind : Kind → Kind → Bool
same_kind ingredient ingredient = true
same_kind ingredient cookware = false
same_kind cookware ingredient = false
same_kind cookware cookware = true

-- "*Entry*, in demand 3: an `ingredient` or `cookware` line outside text mode"
unfoldable pub entry_in : DefineMode → Event → EntryLine
entry_in m e = pick (is_text m) no_entry (entry_of_line e)

unfoldable pub unmarked_by : DefineMode → DuplicateMode → Kind → ℕ → EntryLine → List Unmarked → List Unmarked
unmarked_by m d k place no_entry us = us
unmarked_by m d k place (entry_line j c) us =
    pick (same_kind j k && not (is_marked m d k c us))
    (record { place = place; folded = folded_name k c; is_opt = c.modifiers.opt } ∷ us) us

module _ (flags : ℕ) where
  -- the entries of a kind among some lines that are not marked, newest first
  module _ (k : Kind) where
    unfoldable pub unmarked : List Event → List Unmarked
    unmarked [] = []
    unmarked (e ∷ earlier) =
        unmarked_by (define_at flags earlier) (duplicate_at flags earlier) k (length earlier) (entry_in (define_at flags earlier) e) (unmarked earlier)

  unfoldable pub implicit_by : List Event → EntryLine → Option Unmarked
  implicit_by earlier no_entry = None
  implicit_by earlier (entry_line k c) = implicit_target (define_at flags earlier) (duplicate_at flags earlier) k c (unmarked k earlier)

  -- what a line refers to where it is an implicit reference
  unfoldable pub implicit_at : List Event → Event → Option Unmarked
  implicit_at earlier e = implicit_by earlier (entry_in (define_at flags earlier) e)

  -- the last earlier entry of a line's name that is not marked as a reference
  unfoldable pub last_by : List Event → EntryLine → Option Unmarked
  last_by earlier no_entry = None
  last_by earlier (entry_line k c) = last_named (folded_name k c) (unmarked k earlier)

  unfoldable pub last_of_name : List Event → Event → Option Unmarked
  last_of_name earlier e = last_by earlier (entry_in (define_at flags earlier) e)
