-- The state of the pass (`RecipeCollector`), and the limits (17).
use Rattle.std.specs.Prelude.{ℕ, Bool, ◌||◌, ltb, length, None}
use mathlib.Core.List.{List, [], reverse_aux}
use Rattle.rules.specs.Event.{Span}
use Rattle.rules.specs.Finding.{Finding}
use Rattle.rules.specs.Model.{Kind, ingredient, cookware, Entry, Timer, InlineQuantity, Item, Section, MetaEntry}
use Rattle.rules.specs.Modes.{Modes, first_modes}

-- ---- the state; every list has the newest first

-- the open block and what it holds so far; in text mode every block holds text
pub data Open : Type 0 where
  no_block : Open
  step_open : List Item → Open
  text_open : List (List ℕ) → Open
  text_mode_open : List (List ℕ) → Open

-- where the pass stands in the recipe: the section that is being filled, the next step's number, the open block
pub record Place : Type 0 where
  pub section : Section
  pub step_counter : ℕ
  pub block : Open

-- the map, and the spans of finding 3
pub record Metadata : Type 0 where
  pub map : List MetaEntry
  pub old : List Span

pub record Tables : Type 0 where
  pub ingredients : List Entry
  pub cookware : List Entry
  pub timers : List Timer
  pub inline : List InlineQuantity

-- kept sections, and how many blocks and items the recipe keeps
pub record Kept : Type 0 where
  pub sections : List Section
  pub blocks : ℕ
  pub items : ℕ

pub record State : Type 0 where
  pub modes : Modes
  pub metadata : Metadata
  pub place : Place
  pub kept : Kept
  pub tables : Tables
  pub findings : List Finding

unfoldable pub first_state : State
first_state =
    record {
      modes = first_modes;
      metadata = record { map = []; old = [] };
      place = record { section = record { name = None; content = [] }; step_counter = 1; block = no_block };
      kept = record { sections = []; blocks = 0; items = 0 };
      tables = record { ingredients = []; cookware = []; timers = []; inline = [] };
      findings = [];
    }

-- ---- the same state with another part

unfoldable pub set_modes : Modes → State → State
set_modes m st = record { modes = m; metadata = st.metadata; place = st.place; kept = st.kept; tables = st.tables; findings = st.findings }

unfoldable pub set_metadata : Metadata → State → State
set_metadata m st = record { modes = st.modes; metadata = m; place = st.place; kept = st.kept; tables = st.tables; findings = st.findings }

unfoldable pub set_place : Place → State → State
set_place p st = record { modes = st.modes; metadata = st.metadata; place = p; kept = st.kept; tables = st.tables; findings = st.findings }

unfoldable pub set_block : Open → State → State
set_block b st = set_place (record { section = st.place.section; step_counter = st.place.step_counter; block = b }) st

unfoldable pub set_kept : Kept → State → State
set_kept k st = record { modes = st.modes; metadata = st.metadata; place = st.place; kept = k; tables = st.tables; findings = st.findings }

unfoldable pub set_tables : Tables → State → State
set_tables t st = record { modes = st.modes; metadata = st.metadata; place = st.place; kept = st.kept; tables = t; findings = st.findings }

unfoldable pub table_of : Kind → State → List Entry
table_of ingredient st = st.tables.ingredients
table_of cookware st = st.tables.cookware

unfoldable pub set_table : Kind → List Entry → State → State
set_table ingredient es st = set_tables (record { ingredients = es; cookware = st.tables.cookware; timers = st.tables.timers; inline = st.tables.inline }) st
set_table cookware es st = set_tables (record { ingredients = st.tables.ingredients; cookware = es; timers = st.tables.timers; inline = st.tables.inline }) st

unfoldable pub set_timers : List Timer → State → State
set_timers ts st = set_tables (record { ingredients = st.tables.ingredients; cookware = st.tables.cookware; timers = ts; inline = st.tables.inline }) st

unfoldable pub set_inline : List InlineQuantity → State → State
set_inline qs st = set_tables (record { ingredients = st.tables.ingredients; cookware = st.tables.cookware; timers = st.tables.timers; inline = qs }) st

-- with more findings, given in the order in which they come
unfoldable pub report : List Finding → State → State
report fs st = record { modes = st.modes; metadata = st.metadata; place = st.place; kept = st.kept; tables = st.tables; findings = reverse_aux fs st.findings }

-- ---- "Limits on what the recipe and report keep: ingredients 512, cookware 256, timers 256, sections 128, blocks 1,024,
-- items 4,096, inline quantities 512, findings 1,024. Each is over the whole recipe."

unfoldable pub over_limits : State → Bool
over_limits st =
    ltb 512 (length st.tables.ingredients) || ltb 256 (length st.tables.cookware) || ltb 256 (length st.tables.timers)
    || ltb 128 (length st.kept.sections) || ltb 1024 st.kept.blocks || ltb 4096 st.kept.items
    || ltb 512 (length st.tables.inline) || ltb 1024 (length st.findings)

-- ---- what the pass can come to

-- what a line makes of a state: another, or a refusal's number
pub data Step : Type 0 where
  next : State → Step
  stop : ℕ → Step

-- it goes on; it has met an `error` line, and keeps the parser's findings; it was refused by a number at a line
pub data Walk : Type 0 where
  going : State → Walk
  failed : List Finding → Walk
  refused : ℕ → ℕ → Walk

-- what the whole pass gives
pub data Outcome : Type 0 where
  recipe : State → Outcome
  no_recipe : List Finding → Outcome
  refusal : ℕ → ℕ → Outcome
