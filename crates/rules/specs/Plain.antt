-- The plain form (document 01, "The plain form"), line by line, and its refusals 22 and 23.
use Rattle.std.specs.Prelude.{ℕ, suc, List, [], ◌∷◌, ◌++◌, Bool, true, false, ◌&&◌, eqb, Option, None, Some}
use Rattle.rules.specs.Basic.{pick}
use Rattle.rules.specs.Words.{step_kind, text_kind}
use Rattle.rules.specs.Event.{Component, Intermediate, Event, Between, meta_event, section_event, start_event, Inside, end_event, text_event, component_event, ComponentEvent, ingredient_event, cookware_event, timer_event, between, inside, parser_event, component_span}
use Rattle.rules.specs.Write.{write_line}
use Rattle.rules.specs.Input.{Context}
use Rattle.rules.specs.Model.{ingredient, cookware, Entry, with_ref}
use Rattle.rules.specs.Modes.{is_components, is_text, has_modes, Key, config, unknown_config, ordinary, key_of, key_text}
use Rattle.rules.specs.Reference.{Earlier, same_name_of}
use Rattle.rules.specs.State.{State, Open, no_block, step_open, text_open, text_mode_open, Walk, going, failed, refused, table_of}
use Rattle.rules.specs.Components.{new_entry, make_ingredient, make_cookware}
use Rattle.rules.specs.Pass.{source_text, step}

-- a line, and the state of the pass before it
pub record Traced : Type 0 where
  pub line : ℕ
  pub state : State
  pub event : Event

unfoldable pub traced : ℕ → Event → Walk → List Traced
traced line e (going st) = record { line = line; state = st; event = e } ∷ []
traced line e (failed fs) = []
traced line e (refused n l) = []

-- ---- "REF added to each resolved implicit reference"

unfoldable pub mark_ref : Component → Component
mark_ref c =
    record { span = c.span; name = c.name; alias = c.alias; quantity = c.quantity; note = c.note; modifiers = with_ref c.modifiers; modifiers_span = c.modifiers_span }

-- what a component refers to without REF on its line
unfoldable pub implicit_of : Component → Option Earlier → Option Earlier
implicit_of c to = pick c.modifiers.ref None to

unfoldable pub marked_if : Component → Option Earlier → Component
marked_if c None = c
marked_if c (Some d) = mark_ref c

-- ---- "23 implicit reference not to the last non-REF of its name"

unfoldable pub is_last : Earlier → Option Earlier → Bool
is_last d None = false
is_last d (Some l) = eqb d.index l.index

unfoldable pub implicit_fault : Entry → List Entry → Option Earlier → Option ℕ
implicit_fault new table None = None
implicit_fault new table (Some d) = pick (is_last d (same_name_of true new table)) None (Some 23)

-- ---- lines in a step

-- "components-mode step blocks removed"
unfoldable pub unless_listed : State → Event → List Event
unless_listed st e = pick (is_components st.modes.define) [] (e ∷ [])

module _ (cx : Context) where
  unfoldable pub implicit_ingredient : State → Component → Option Intermediate → Option Earlier
  implicit_ingredient st c i = implicit_of c (make_ingredient cx c i st).refers_to

  unfoldable pub implicit_cookware : State → Component → Option Earlier
  implicit_cookware st c = implicit_of c (make_cookware cx.units cx.flags c st).refers_to

  unfoldable pub marked_component : State → ComponentEvent → ComponentEvent
  marked_component st (ingredient_event c i) = ingredient_event (marked_if c (implicit_ingredient st c i)) i
  marked_component st (cookware_event c) = cookware_event (marked_if c (implicit_cookware st c))
  marked_component st (timer_event s n q) = timer_event s n q

  unfoldable pub in_plain_step : State → Inside → Inside
  in_plain_step st (end_event k) = end_event k
  in_plain_step st (text_event t) = text_event t
  in_plain_step st (component_event c) = component_event (marked_component st c)

  unfoldable pub mark_fault : State → ComponentEvent → Option ℕ
  mark_fault st (ingredient_event c i) = implicit_fault (new_entry ingredient c st) (table_of ingredient st) (implicit_ingredient st c i)
  mark_fault st (cookware_event c) = implicit_fault (new_entry cookware c st) (table_of cookware st) (implicit_cookware st c)
  mark_fault st (timer_event s n q) = None

  -- "22 component in a components-mode step", then 23
  unfoldable pub component_fault : State → ComponentEvent → Open → Option ℕ
  component_fault st c no_block = None
  component_fault st c (step_open is) = pick (is_components st.modes.define) (Some 22) (mark_fault st c)
  component_fault st c (text_open ts) = None
  component_fault st c (text_mode_open ts) = None

  unfoldable pub plain_fault : State → Event → Option ℕ
  plain_fault st (between b) = None
  plain_fault st (inside (end_event k)) = None
  plain_fault st (inside (text_event t)) = None
  plain_fault st (inside (component_event c)) = component_fault st c st.place.block
  plain_fault st (parser_event s n) = None

-- ---- lines between blocks: "`[mode]`, `[define]`, `[duplicate]` lines removed where flag 1 is set"

unfoldable pub is_mode_key : Key → Bool
is_mode_key (config k) = true
is_mode_key unknown_config = false
is_mode_key ordinary = false

module _ (flags : ℕ) where
  unfoldable pub plain_between : State → Between → List Event
  plain_between st (meta_event k v) = pick (has_modes flags && is_mode_key (key_of (key_text k))) [] (between (meta_event k v) ∷ [])
  plain_between st (section_event n) = between (section_event n) ∷ []
  plain_between st (start_event text_kind) = between (start_event text_kind) ∷ []
  plain_between st (start_event step_kind) =
      pick (is_text st.modes.define) (between (start_event text_kind) ∷ []) (unless_listed st (between (start_event step_kind)))

-- ---- what each line becomes

module _ (text : List ℕ) where
  -- "text-mode blocks written as `text` blocks with each component replaced by a `text` line of its span and source bytes"
  unfoldable pub in_plain_text : Inside → Inside
  in_plain_text (end_event k) = end_event text_kind
  in_plain_text (text_event t) = text_event t
  in_plain_text (component_event c) = text_event (record { span = component_span c; content = source_text text (component_span c) })

module _ (cx : Context) where
  unfoldable pub plain_inside : State → Inside → Open → List Event
  plain_inside st i no_block = inside i ∷ []
  plain_inside st i (step_open is) = unless_listed st (inside (in_plain_step cx st i))
  plain_inside st i (text_open ts) = inside i ∷ []
  plain_inside st i (text_mode_open ts) = inside (in_plain_text cx.text i) ∷ []

  -- "(their `warning` lines kept)"
  unfoldable pub plain_event : State → Event → List Event
  plain_event st (between b) = plain_between cx.flags st b
  plain_event st (inside i) = plain_inside st i st.place.block
  plain_event st (parser_event s n) = parser_event s n ∷ []

  unfoldable pub plain_events : List Traced → List Event
  plain_events [] = []
  plain_events (t ∷ ts) = plain_event t.state t.event ++ plain_events ts

  unfoldable pub trace_from : ℕ → Walk → List Event → List Traced
  trace_from line w [] = []
  trace_from line w (e ∷ es) = traced line e w ++ trace_from (suc line) (step cx line e w) es

-- the bytes of some events' lines
unfoldable pub sheet_of : List Event → List ℕ
sheet_of [] = []
sheet_of (e ∷ es) = write_line e ++ sheet_of es
