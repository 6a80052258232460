-- The pass over the events (`RecipeCollector::parse_events`), its refusals 11 to 19, and its end.
use Rattle.std.specs.Prelude.{ℕ, suc, ◌+◌, ◌-◌, Bool, true, false, ◌&&◌, not, length, take, drop, Option, None, Some}
use mathlib.Core.List.{List, [], ◌∷◌, ◌++◌, reverse, reverse_aux}
use Rattle.rules.specs.Basic.{pick, is_empty, is_some, when, any, concat, on_some}
use Rattle.rules.specs.Unicode.{is_alphanumeric}
use Rattle.rules.specs.Utf8.{chars}
use Rattle.rules.specs.Words.{BlockKind, step_kind, text_kind, DefineMode, severe, mild}
use Rattle.rules.specs.Event.{Span, Text, Quantity, Event, Between, meta_event, section_event, start_event, Inside, end_event, text_event, component_event, ComponentEvent, ingredient_event, cookware_event, timer_event, between, inside, parser_event, component_span}
use Rattle.rules.specs.Units.{NamedUnit}
use Rattle.rules.specs.Input.{Context}
use Rattle.rules.specs.Inline.{Piece, text_piece, quantity_piece, inline_pieces}
use Rattle.rules.specs.Finding.{Finding, parsed, found, only_parsed}
use Rattle.rules.specs.Model.{Kind, ingredient, cookware, trimmed_text, InlineQuantity, Item, text_item, ingredient_item, cookware_item, timer_item, inline_item, Block, step_block, text_block, Section}
use Rattle.rules.specs.Modes.{is_components, is_text, has_inline}
use Rattle.rules.specs.State.{Open, State, first_state, set_place, set_kept, table_of, set_table, set_timers, set_inline, report, set_block, over_limits, Step, Walk, Outcome, no_block, step_open, text_open, text_mode_open, next, stop, going, failed, refused, recipe, no_recipe, refusal}
use Rattle.rules.specs.Metadata.{on_metadata, old_metadata}
use Rattle.rules.specs.Components.{Made, make_ingredient, make_cookware, timer_findings, timer_of, intermediate_fault, pushed, refers_to_reference}

-- ---- sections and blocks

unfoldable pub is_open : Open → Bool
is_open no_block = false
is_open (step_open is) = true
is_open (text_open ts) = true
is_open (text_mode_open ts) = true

-- `Section::is_empty`: no name and no content
unfoldable pub is_empty_section : Section → Bool
is_empty_section s = not (is_some s.name) && is_empty s.content

-- "a section [counts] when it is closed and kept"
unfoldable pub close_section : State → State
close_section st =
    pick (is_empty_section st.place.section) st
    (set_kept (record { sections = st.place.section ∷ st.kept.sections; blocks = st.kept.blocks; items = st.kept.items }) st)

unfoldable pub on_section : Option Text → State → State
on_section name st =
    set_place (record { section = record { name = on_some trimmed_text name; content = [] }; step_counter = 1; block = no_block }) (close_section st)

unfoldable pub opened : DefineMode → BlockKind → Open
opened mode step_kind = pick (is_text mode) (text_mode_open []) (step_open [])
opened mode text_kind = pick (is_text mode) (text_mode_open []) (text_open [])

-- a block closed and kept, and the number of the next step; "a block [counts] at its `end`"
unfoldable pub keep_block : Block → ℕ → State → State
keep_block b n st =
    set_kept (record { sections = st.kept.sections; blocks = suc st.kept.blocks; items = st.kept.items })
    (set_place
    (record { section = record { name = st.place.section.name; content = b ∷ st.place.section.content }; step_counter = n; block = no_block })
    st)

unfoldable pub close_text : List (List ℕ) → State → State
close_text ts st = keep_block (text_block (concat (reverse ts))) st.place.step_counter st

-- "In components mode text blocks are stored, steps dropped, the step counter unmoved."
unfoldable pub close_step : List Item → State → State
close_step is st =
    pick (is_components st.modes.define) (set_block no_block st)
    (keep_block (step_block st.place.step_counter is) (suc st.place.step_counter) st)

-- ---- the items of a step

-- "an item [counts] at its own line. Items of components-mode steps do not count."
unfoldable pub push_items : List Item → List Item → State → State
push_items new is st =
    set_block (step_open (reverse_aux new is))
    (set_kept
    (record {
      sections = st.kept.sections;
      blocks = st.kept.blocks;
      items = pick (is_components st.modes.define) st.kept.items (length new + st.kept.items);
    })
    st)

-- the items of some pieces of text, where n inline quantities came before; and the quantities
unfoldable pub items_of : ℕ → List Piece → List Item
items_of n [] = []
items_of n (text_piece t ∷ ps) = text_item t ∷ items_of n ps
items_of n (quantity_piece a u ∷ ps) = inline_item n ∷ items_of (suc n) ps

unfoldable pub quantities_of : List Piece → List InlineQuantity
quantities_of [] = []
quantities_of (text_piece t ∷ ps) = quantities_of ps
quantities_of (quantity_piece a u ∷ ps) = record { number = a; unit = u } ∷ quantities_of ps

unfoldable pub push_pieces : List Piece → List Item → State → State
push_pieces ps is st =
    push_items (items_of (length st.tables.inline) ps) is
    (set_inline (reverse_aux (quantities_of ps) st.tables.inline) st)

unfoldable pub item_of : Kind → ℕ → Item
item_of ingredient i = ingredient_item i
item_of cookware i = cookware_item i

unfoldable pub push_component : Kind → Made → List Item → State → State
push_component k m is st =
    report m.findings (push_items (item_of k (length (table_of k st)) ∷ []) is (set_table k (pushed m (table_of k st)) st))

-- 18, reference to a reference; 17 is the lower number
unfoldable pub unless_chained : Made → State → Step
unless_chained m st = pick (refers_to_reference m.refers_to) (pick (over_limits st) (stop 17) (stop 18)) (next st)

unfoldable pub unless_fault : Option ℕ → Step → Step
unless_fault None s = s
unless_fault (Some n) s = stop n

-- ---- `in_step`

module _ (units : List NamedUnit) (flags : ℕ) where
  -- a text is one item without flag 2, else what the inline search makes of it
  unfoldable pub pieces : List ℕ → List Piece
  pieces t = pick (has_inline flags) (inline_pieces units t) (text_piece t ∷ [])

  -- 4, text in components mode
  unfoldable pub text_in_step : Text → List Item → State → State
  text_in_step t is st =
      pick (is_components st.modes.define)
      (report (when (any is_alphanumeric t.content) (found 4 t.span)) st)
      (push_pieces (pieces t.content) is st)

  unfoldable pub push_timer : Option Text → Option Quantity → List Item → State → State
  push_timer name q is st =
      report (timer_findings units flags q)
      (push_items (timer_item (length st.tables.timers) ∷ []) is (set_timers (timer_of name q ∷ st.tables.timers) st))

unfoldable pub on_made : Kind → Made → List Item → State → Step
on_made k m is st = unless_chained m (push_component k m is st)

module _ (cx : Context) where
  unfoldable pub on_component : ComponentEvent → List Item → State → Step
  on_component (ingredient_event c i) is st = unless_fault (intermediate_fault c i) (on_made ingredient (make_ingredient cx c i st) is st)
  on_component (cookware_event c) is st = on_made cookware (make_cookware cx.units cx.flags c st) is st
  on_component (timer_event s n q) is st = next (push_timer cx.units cx.flags n q is st)

  -- 13 `end` of other kind
  unfoldable pub in_step_block : Inside → List Item → State → Step
  in_step_block (end_event step_kind) is st = next (close_step is st)
  in_step_block (end_event text_kind) is st = stop 13
  in_step_block (text_event t) is st = next (text_in_step cx.units cx.flags t is st)
  in_step_block (component_event c) is st = on_component c is st

-- ---- `in_text`

-- outside text mode: 13, and 14 component in a text block
unfoldable pub in_text_block : Inside → List (List ℕ) → State → Step
in_text_block (end_event step_kind) ts st = stop 13
in_text_block (end_event text_kind) ts st = next (close_text ts st)
in_text_block (text_event t) ts st = next (set_block (text_open (t.content ∷ ts)) st)
in_text_block (component_event c) ts st = stop 14

module _ (text : List ℕ) where
  -- the text of a span
  unfoldable pub source_text : Span → List ℕ
  source_text s = chars (take (s.end - s.start) (drop s.start text))

  -- 5, component in text mode; its source bytes are the text
  unfoldable pub component_in_text : Span → List (List ℕ) → State → State
  component_in_text s ts st = report (found 5 s ∷ []) (set_block (text_mode_open (source_text s ∷ ts)) st)

  -- in text mode any `end` closes the block
  unfoldable pub in_text_mode : Inside → List (List ℕ) → State → Step
  in_text_mode (end_event k) ts st = next (close_text ts st)
  in_text_mode (text_event t) ts st = next (set_block (text_mode_open (t.content ∷ ts)) st)
  in_text_mode (component_event c) ts st = next (component_in_text (component_span c) ts st)

-- ---- one line

unfoldable pub parser_findings : Event → List Finding
parser_findings (between b) = []
parser_findings (inside i) = []
parser_findings (parser_event s n) = parsed s n ∷ []

unfoldable pub is_error_event : Event → Bool
is_error_event (between b) = false
is_error_event (inside i) = false
is_error_event (parser_event severe n) = true
is_error_event (parser_event mild n) = false

-- "17 a table's limit passed", after all other numbers but 18
unfoldable pub settle : ℕ → Step → Walk
settle line (stop n) = refused n line
settle line (next st) = pick (over_limits st) (refused 17 line) (going st)

module _ (cx : Context) where
  -- 12 `end`, `text`, component in none
  unfoldable pub on_inside : Inside → Open → State → Step
  on_inside e no_block st = stop 12
  on_inside e (step_open is) st = in_step_block cx e is st
  on_inside e (text_open ts) st = in_text_block e ts st
  on_inside e (text_mode_open ts) st = in_text_mode cx.text e ts st

  unfoldable pub on_between : Between → State → State
  on_between (meta_event k v) st = on_metadata cx.flags k v st
  on_between (section_event n) st = on_section n st
  on_between (start_event k) st = set_block (opened st.modes.define k) st

  -- 11 `start`, `section`, `meta` in an open block
  unfoldable pub on_event : Event → State → Step
  on_event (between b) st = pick (is_open st.place.block) (stop 11) (next (on_between b st))
  on_event (inside i) st = on_inside i st.place.block st
  on_event (parser_event s n) st = next (report (parsed s n ∷ []) st)

  -- "From the first `error` line on, that line included, only `error` and `warning` lines count, earlier findings of the
  -- pass vanish, and the limits above no longer apply."
  unfoldable pub step : ℕ → Event → Walk → Walk
  step line e (going st) =
      pick (is_error_event e) (failed (parser_findings e ++ only_parsed st.findings)) (settle line (on_event e st))
  step line e (failed fs) = failed (parser_findings e ++ fs)
  step line e (refused n l) = refused n l

  unfoldable pub walk : ℕ → Walk → List Event → Walk
  walk line w [] = w
  walk line w (e ∷ es) = walk (suc line) (step line e w) es

-- ---- the end: "19 block open; then 17"

unfoldable pub ended : State → State
ended st = report (old_metadata st.metadata.old) (close_section st)

unfoldable pub unless_over : State → Outcome
unless_over st = pick (over_limits st) (refusal 17 0) (recipe st)

unfoldable pub finish : Walk → Outcome
finish (going st) = pick (is_open st.place.block) (refusal 19 0) (unless_over (ended st))
finish (failed fs) = no_recipe fs
finish (refused n l) = refusal n l

unfoldable pub parse_events : Context → List Event → Outcome
parse_events cx es = finish (walk cx 1 (going first_state) es)
