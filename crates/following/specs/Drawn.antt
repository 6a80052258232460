-- What of the page has been drawn when the walk stands in a state, and what a line adds to it: the parts of the page that
-- work memory does not hold. Lists of a state have the newest first.
use Rattle.std.specs.Prelude.{ℕ, List, [], ◌∷◌, ◌++◌, reverse, Bool, true, false, ◌||◌, not, length, Option, None}
use Rattle.rules.specs.Basic.{pick, codes, tab, lf, comma, decimal, join_by, each, concat, is_empty, is_some, on_some}
use Rattle.rules.specs.Sheet.{line_of}
use Rattle.rules.specs.Words.{BlockKind, step_kind, text_kind, DefineMode, mode_all, mode_components, mode_steps, mode_text}
use Rattle.rules.specs.Event.{Span, Text, meta_event, section_event, start_event, ComponentEvent, ingredient_event, cookware_event, timer_event, Inside, end_event, text_event, component_event, Event, between, inside, parser_event, component_span}
use Rattle.rules.specs.Units.{NamedUnit}
use Rattle.rules.specs.Model.{trimmed_text, InlineQuantity, Item, ingredient_item, cookware_item, timer_item}
use Rattle.rules.specs.Modes.{is_components, is_text, has_modes, Key, config, unknown_config, ordinary, key_of, key_text}
use Rattle.rules.specs.State as state
use Rattle.rules.specs.State.{State, no_block, step_open, text_open, text_mode_open}
use Rattle.rules.specs.Components.{timer_of}
use Rattle.rules.specs.Pass.{quantities_of, pieces, source_text}
use Rattle.rules.specs.Page.{table_lines, optional, item_line, block_lines, section_lines, timer_line, inline_line, span_word}
use Rattle.content.specs.Contents.{spell}
use Rattle.sheet.specs.declared.Define.{Define}
use Rattle.sheet.specs.declared.Define.TheVariants as define
use Rattle.model.specs.declared.Open.{Open}
use Rattle.model.specs.declared.Open.TheVariants as block
use Rattle.step_lines.specs.Lines.{item_text, inline_text}
use Rattle.following.specs.declared.Part.{Part}
use Rattle.following.specs.declared.Part.TheVariants.{Sections, Timers, Inline, Old}
use Rattle.following.specs.declared.Follow.{Follow}
use Rattle.sheet.specs.Words.{define_of}

-- ---- modes and open blocks as the code has them

unfoldable pub define_in : DefineMode → Define
define_in mode_all = define.All
define_in mode_components = define.Components
define_in mode_steps = define.Steps
define_in mode_text = define.Text

unfoldable pub kind_of : state.Open → Open
kind_of no_block = block.Nothing
kind_of (step_open is) = block.Step
kind_of (text_open ts) = block.Text
kind_of (text_mode_open ts) = block.TextMode

-- such a block is kept at its end: "In components mode text blocks are stored, steps dropped"
unfoldable pub keeps : Define → Open → Bool
keeps d block.Nothing = false
keeps d block.Step = not (is_components (define_of d))
keeps d block.Text = true
keeps d block.TextMode = true

-- ---- lines

unfoldable pub section_line : Option (List ℕ) → List ℕ
section_line name = line_of (codes "section" ∷ optional name ∷ [])

unfoldable pub step_line : ℕ → List ℕ
step_line n = line_of (codes "step" ∷ decimal n ∷ [])

-- a text block's line before its text
unfoldable pub text_lead : List ℕ
text_lead = codes "text" ++ (tab ∷ [])

-- ---- what has been drawn

-- what the open block has so far; a text's LF comes at its end
unfoldable pub open_drawn : DefineMode → ℕ → state.Open → List ℕ
open_drawn m n no_block = []
open_drawn m n (step_open is) = pick (is_components m) [] (step_line n ++ table_lines item_line is)
open_drawn m n (text_open ts) = text_lead ++ spell (concat (reverse ts))
open_drawn m n (text_mode_open ts) = text_lead ++ spell (concat (reverse ts))

-- the current section has its line: it has a name, a block, or an open block that will be kept
unfoldable pub is_shown : State → Bool
is_shown st =
    is_some st.place.section.name || not (is_empty st.place.section.content)
    || keeps (define_in st.modes.define) (kind_of st.place.block)

unfoldable pub sections_drawn : State → List ℕ
sections_drawn st =
    table_lines section_lines st.kept.sections
    ++ (pick (is_shown st) (section_line st.place.section.name) []
    ++ (table_lines block_lines st.place.section.content ++ open_drawn st.modes.define st.place.step_counter st.place.block))

unfoldable pub old_drawn : State → List ℕ
old_drawn st = join_by comma (each span_word (reverse st.metadata.old))

unfoldable pub drawn : Part → State → List ℕ
drawn Sections st = sections_drawn st
drawn Timers st = table_lines timer_line st.tables.timers
drawn Inline st = table_lines inline_line st.tables.inline
drawn Old st = old_drawn st

-- the line of finding 3, whose spans these bytes are
unfoldable pub old_line : List ℕ → List ℕ
old_line spans = codes "diag" ++ (tab ∷ (codes "W" ++ (tab ∷ (codes "3" ++ (tab ∷ (spans ++ (tab ∷ (codes "-" ++ (lf ∷ [])))))))))

-- ---- what the bytes of the next line depend on

unfoldable pub follow_of : State → Follow
follow_of st =
    record {
      define = define_in st.modes.define;
      block = kind_of st.place.block;
      shown = is_shown st;
      counter = st.place.step_counter;
      ingredients = length st.tables.ingredients;
      cookware = length st.tables.cookware;
      timers = length st.tables.timers;
      inline = length st.tables.inline;
      old = not (is_empty st.metadata.old);
    }

unfoldable pub first_follow : Follow
first_follow =
    record {
      define = define.All;
      block = block.Nothing;
      shown = false;
      counter = 1;
      ingredients = 0;
      cookware = 0;
      timers = 0;
      inline = 0;
      old = false;
    }

-- ---- what a line adds; of a line that the pass refuses there it says nothing

-- the block that a `start` opens
unfoldable pub opens_as : Define → BlockKind → Open
opens_as d step_kind = pick (is_text (define_of d)) block.TextMode block.Step
opens_as d text_kind = pick (is_text (define_of d)) block.TextMode block.Text

-- its first bytes
unfoldable pub lead : ℕ → Open → List ℕ
lead n block.Nothing = []
lead n block.Step = step_line n
lead n block.Text = text_lead
lead n block.TextMode = text_lead

-- a block that will be kept is drawn at once, after the section's line where that is missing; such a section has no name
unfoldable pub start_adds : Follow → Open → List ℕ
start_adds f b = pick (keeps f.define b) (pick f.shown [] (section_line None) ++ lead f.counter b) []

unfoldable pub component_item : ComponentEvent → Follow → Item
component_item (ingredient_event c i) f = ingredient_item f.ingredients
component_item (cookware_event c) f = cookware_item f.cookware
component_item (timer_event s n q) f = timer_item f.timers

-- lines that add nothing in components mode
unfoldable pub unless_components : Follow → List ℕ → List ℕ
unless_components f bytes = pick (is_components (define_of f.define)) [] bytes

module _ (text : List ℕ) (units : List NamedUnit) (flags : ℕ) where
  unfoldable pub inside_adds : Inside → Open → Follow → List ℕ
  inside_adds i block.Nothing f = []
  inside_adds (end_event k) block.Step f = []
  inside_adds (text_event t) block.Step f = unless_components f (item_text f.inline (pieces units flags t.content))
  inside_adds (component_event c) block.Step f = unless_components f (item_line 0 (component_item c f))
  inside_adds (end_event k) block.Text f = lf ∷ []
  inside_adds (text_event t) block.Text f = spell t.content
  inside_adds (component_event c) block.Text f = []
  inside_adds (end_event k) block.TextMode f = lf ∷ []
  inside_adds (text_event t) block.TextMode f = spell t.content
  inside_adds (component_event c) block.TextMode f = spell (source_text text (component_span c))

  unfoldable pub sections_add : Event → Follow → List ℕ
  sections_add (between (meta_event k v)) f = []
  sections_add (between (section_event n)) f = pick (is_some n) (section_line (on_some trimmed_text n)) []
  sections_add (between (start_event k)) f = start_adds f (opens_as f.define k)
  sections_add (inside i) f = inside_adds i f.block f
  sections_add (parser_event s n) f = []

-- a timer of a step, in components mode too
unfoldable pub timer_adds : ComponentEvent → Open → Follow → List ℕ
timer_adds (ingredient_event c i) b f = []
timer_adds (cookware_event c) b f = []
timer_adds (timer_event s n q) block.Nothing f = []
timer_adds (timer_event s n q) block.Step f = timer_line f.timers (timer_of n q)
timer_adds (timer_event s n q) block.Text f = []
timer_adds (timer_event s n q) block.TextMode f = []

unfoldable pub timers_add : Event → Follow → List ℕ
timers_add (between b) f = []
timers_add (inside (end_event k)) f = []
timers_add (inside (text_event t)) f = []
timers_add (inside (component_event c)) f = timer_adds c f.block f
timers_add (parser_event s n) f = []

module _ (units : List NamedUnit) (flags : ℕ) where
  -- the quantities in a step's text
  unfoldable pub inline_adds : Text → Open → Follow → List ℕ
  inline_adds t block.Nothing f = []
  inline_adds t block.Step f = unless_components f (inline_text f.inline (pieces units flags t.content))
  inline_adds t block.Text f = []
  inline_adds t block.TextMode f = []

  unfoldable pub inline_add : Event → Follow → List ℕ
  inline_add (between b) f = []
  inline_add (inside (end_event k)) f = []
  inline_add (inside (text_event t)) f = inline_adds t f.block f
  inline_add (inside (component_event c)) f = []
  inline_add (parser_event s n) f = []

  -- they themselves
  unfoldable pub quantities_in : Text → Open → Follow → List InlineQuantity
  quantities_in t block.Nothing f = []
  quantities_in t block.Step f = pick (is_components (define_of f.define)) [] (quantities_of (pieces units flags t.content))
  quantities_in t block.Text f = []
  quantities_in t block.TextMode f = []

  unfoldable pub quantities_added : Event → Follow → List InlineQuantity
  quantities_added (between b) f = []
  quantities_added (inside (end_event k)) f = []
  quantities_added (inside (text_event t)) f = quantities_in t f.block f
  quantities_added (inside (component_event c)) f = []
  quantities_added (parser_event s n) f = []

-- the span of a line that counts for finding 3, after a comma where it is not the first
unfoldable pub span_adds : Bool → Span → List ℕ
span_adds later s = pick later (comma ∷ span_word s) (span_word s)

unfoldable pub key_adds : Key → Text → Text → Follow → List ℕ
key_adds (config c) k v f = []
key_adds unknown_config k v f = []
key_adds ordinary k v f = span_adds f.old (record { start = k.span.start; end = v.span.end })

module _ (flags : ℕ) where
  unfoldable pub old_add : Event → Follow → List ℕ
  old_add (between (meta_event k v)) f = key_adds (pick (has_modes flags) (key_of (key_text k)) ordinary) k v f
  old_add (between (section_event n)) f = []
  old_add (between (start_event k)) f = []
  old_add (inside i) f = []
  old_add (parser_event s n) f = []

module _ (text : List ℕ) (units : List NamedUnit) (flags : ℕ) where
  unfoldable pub added : Part → Event → Follow → List ℕ
  added Sections e f = sections_add text units flags e f
  added Timers e f = timers_add e f
  added Inline e f = inline_add units flags e f
  added Old e f = old_add flags e f

  -- what a line adds in a state
  unfoldable pub appended : Part → Event → State → List ℕ
  appended p e st = added p e (follow_of st)
