-- The map of metadata that the `meta` lines of a sheet make.
use Rattle.std.specs.Prelude.{ℕ, ◌+◌, ◌≤◌, ◌≡◌, List, [], ◌∷◌, length, take, drop, Some}
use Rattle.rules.specs.Basic.{pick}
use Rattle.rules.specs.Read.{parse_line}
use Rattle.rules.specs.Answer.{events_or, read_sheet}
use Rattle.text.specs.Trims.{TrimmedTo}
use Rattle.parts.specs.Views.{part_of, text_in}
use Rattle.parts.specs.declared.Part.{Part}
use Rattle.parts.specs.declared.TextView.{TextView}
use Rattle.events.specs.Views.{event_in}
use Rattle.events.specs.declared.EventView.{EventView}
use Rattle.rules.specs.Event.{Text, meta_event, section_event, start_event, Event, between, inside, parser_event}
use Rattle.rules.specs.Model.{MetaEntry}
use Rattle.rules.specs.Modes.{Key, config, unknown_config, ordinary, has_modes, key_of, key_text, value_text}
use Rattle.rules.specs.Metadata.{insert_meta}
use Rattle.meta_map.specs.Index.{map_in, Indexed}
use Rattle.model.specs.declared.layout.TheConstants.{STATE_WORDS, INDEX_WORDS, WORDS}

-- a line whose key sets a mode stays out of the map
unfoldable pub map_key : Key → Text → Text → List MetaEntry → List MetaEntry
map_key (config c) k v es = es
map_key unknown_config k v es = insert_meta (key_text k) (value_text v) es
map_key ordinary k v es = insert_meta (key_text k) (value_text v) es

module _ (flags : ℕ) where
  unfoldable pub map_meta : Text → Text → List MetaEntry → List MetaEntry
  map_meta k v es = map_key (pick (has_modes flags) (key_of (key_text k)) ordinary) k v es

  unfoldable pub map_on : Event → List MetaEntry → List MetaEntry
  map_on (between (meta_event k v)) es = map_meta k v es
  map_on (between (section_event n)) es = es
  map_on (between (start_event k)) es = es
  map_on (inside i) es = es
  map_on (parser_event s n) es = es

  -- the map after some events
  unfoldable pub map_over : List Event → List MetaEntry → List MetaEntry
  map_over [] es = es
  map_over (e ∷ rest) es = map_over rest (map_on e es)

-- ---- what the functions leave

-- r is the part of p that trimming leaves
pub record TrimmedPart (line : List ℕ) (p r : Part) : Type 0 where
  pub order : r.from ≤ r.to
  pub most : r.to ≤ p.to
  pub trimmed : TrimmedTo (part_of line p) (part_of line r)

-- a `meta` line
pub record MetaIndexed (flags : ℕ) (sheet line m₀ : List ℕ) (n : ℕ) (k v : TextView) (m : List ℕ) (r : ℕ) : Type 0 where
  pub map : map_in sheet m r ≡ map_meta flags (text_in line k) (text_in line v) (map_in sheet m₀ n)
  pub indexed : Indexed sheet m r
  pub count : r ≤ n + 1

-- any line
pub record EventIndexed (flags : ℕ) (sheet line m₀ : List ℕ) (n : ℕ) (v : EventView) (m : List ℕ) (r : ℕ) : Type 0 where
  pub map : map_in sheet m r ≡ map_on flags (event_in line v) (map_in sheet m₀ n)
  pub indexed : Indexed sheet m r
  pub count : r ≤ n + 1

-- any line, whatever its event is
pub record LineIndexed (flags : ℕ) (sheet line m₀ : List ℕ) (n : ℕ) (m : List ℕ) (r : ℕ) : Type 0 where
  pub map : (e : Event) → parse_line line ≡ Some e → map_in sheet m r ≡ map_on flags e (map_in sheet m₀ n)
  pub indexed : Indexed sheet m r
  pub count : r ≤ n + 1

-- all lines
pub record SheetIndexed (flags : ℕ) (text sheet m : List ℕ) (r : ℕ) : Type 0 where
  pub indexed : Indexed sheet m r
  pub map : map_in sheet m r ≡ map_over flags (events_or (read_sheet text sheet)) []

-- the window of the index
abbrev pub index_of : List ℕ → List ℕ
index_of w = take INDEX_WORDS (drop STATE_WORDS w)

-- the index in the window, in the program's choice of words; the words before the window and after it stay as they are
pub record WordsIndexed (flags : ℕ) (text sheet w₀ w : List ℕ) (r : ℕ) : Type 0 where
  pub index : SheetIndexed flags text sheet (index_of w) r
  pub front : take STATE_WORDS w ≡ take STATE_WORDS w₀
  pub rest : drop WORDS w ≡ drop WORDS w₀
  pub long : length w ≡ length w₀
