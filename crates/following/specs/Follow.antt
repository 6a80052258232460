-- How the small state follows the walk.
use Rattle.std.specs.Prelude.{ℕ, suc, ◌+◌, ◌≤◌, ◌≡◌, List, Bool, true, ◌||◌, length, Option, None, Some}
use Rattle.rules.specs.Basic.{pick, is_some, word_in}
use Rattle.rules.specs.Words.{DefineMode, define_key, duplicate_key, define_words}
use Rattle.rules.specs.Event as rules
use Rattle.rules.specs.Event.{meta_event, section_event, start_event, end_event, text_event, component_event, ingredient_event, cookware_event, timer_event, between, inside, parser_event}
use Rattle.rules.specs.Input.{Context}
use Rattle.rules.specs.Modes as modes
use Rattle.rules.specs.Modes.{is_components, has_modes, key_of, key_text, value_text, config, unknown_config, ordinary}
use Rattle.rules.specs.State.{State, next}
use Rattle.rules.specs.Pass.{on_event}
use Rattle.parts.specs.Views.{text_in}
use Rattle.parts.specs.declared.TextView.{TextView}
use Rattle.events.specs.Views.{between_in, component_event_in, inside_in, event_in}
use Rattle.events.specs.declared.Between.{Between}
use Rattle.events.specs.declared.ComponentEvent.{ComponentEvent}
use Rattle.events.specs.declared.Inside.{Inside}
use Rattle.events.specs.declared.EventView.{EventView}
use Rattle.sheet.specs.declared.Define.{Define}
use Rattle.model.specs.declared.Open.{Open}
use Rattle.model.specs.declared.Open.TheVariants as block
use Rattle.following.specs.Drawn.{define_in, keeps, opens_as, follow_of}
use Rattle.following.specs.declared.Follow.{Follow}
use Rattle.following.specs.declared.Meta.{Meta}
use Rattle.following.specs.declared.Meta.TheVariants.{Defines, Ordinary, Other}
use Rattle.sheet.specs.Words.{define_of}

-- f is what of the state the page's next bytes depend on
pub record Follows (st : State) (f : Follow) : Type 0 where
  pub is : f ≡ follow_of st

-- ---- `meta` lines

-- what the value of `[mode]` or `[define]` does
abbrev pub word_meta : Option Define → Meta
word_meta None = Other
word_meta (Some d) = Defines d

unfoldable pub define_meta : Option DefineMode → Meta
define_meta None = Other
define_meta (Some m) = Defines (define_in m)

unfoldable pub key_meta : modes.Key → Option DefineMode → Meta
key_meta (config define_key) o = define_meta o
key_meta (config duplicate_key) o = Other
key_meta unknown_config o = Other
key_meta ordinary o = Ordinary

-- what a `meta` line does
unfoldable pub meta_of : ℕ → rules.Text → rules.Text → Meta
meta_of flags k v = key_meta (pick (has_modes flags) (key_of (key_text k)) ordinary) (word_in (value_text v) define_words)

unfoldable pub meta_follow : Meta → Follow → Follow
meta_follow (Defines d) f =
    record { define = d; block = f.block; shown = f.shown; counter = f.counter; ingredients = f.ingredients; cookware = f.cookware; timers = f.timers; inline = f.inline; old = f.old }
meta_follow Ordinary f =
    record { define = f.define; block = f.block; shown = f.shown; counter = f.counter; ingredients = f.ingredients; cookware = f.cookware; timers = f.timers; inline = f.inline; old = true }
meta_follow Other f = f

-- ---- sections and blocks

-- a section begins, with a name or without
unfoldable pub section_follow : Bool → Follow → Follow
section_follow named f =
    record { define = f.define; block = block.Nothing; shown = named; counter = 1; ingredients = f.ingredients; cookware = f.cookware; timers = f.timers; inline = f.inline; old = f.old }

-- the block b is opened
unfoldable pub start_follow : Open → Follow → Follow
start_follow b f =
    record { define = f.define; block = b; shown = f.shown || keeps f.define b; counter = f.counter; ingredients = f.ingredients; cookware = f.cookware; timers = f.timers; inline = f.inline; old = f.old }

-- the open block is closed, and n is the number of the next step
unfoldable pub close_follow : ℕ → Follow → Follow
close_follow n f =
    record { define = f.define; block = block.Nothing; shown = f.shown; counter = n; ingredients = f.ingredients; cookware = f.cookware; timers = f.timers; inline = f.inline; old = f.old }

-- the number of the next step after the block b
unfoldable pub counter_after : Open → Follow → ℕ
counter_after block.Nothing f = f.counter
counter_after block.Step f = pick (is_components (define_of f.define)) f.counter (suc f.counter)
counter_after block.Text f = f.counter
counter_after block.TextMode f = f.counter

-- ---- components, which count in steps

unfoldable pub count_component : rules.ComponentEvent → Follow → Follow
count_component (ingredient_event c i) f =
    record { define = f.define; block = f.block; shown = f.shown; counter = f.counter; ingredients = suc f.ingredients; cookware = f.cookware; timers = f.timers; inline = f.inline; old = f.old }
count_component (cookware_event c) f =
    record { define = f.define; block = f.block; shown = f.shown; counter = f.counter; ingredients = f.ingredients; cookware = suc f.cookware; timers = f.timers; inline = f.inline; old = f.old }
count_component (timer_event s n q) f =
    record { define = f.define; block = f.block; shown = f.shown; counter = f.counter; ingredients = f.ingredients; cookware = f.cookware; timers = suc f.timers; inline = f.inline; old = f.old }

unfoldable pub component_follow : rules.ComponentEvent → Open → Follow → Follow
component_follow c block.Nothing f = f
component_follow c block.Step f = count_component c f
component_follow c block.Text f = f
component_follow c block.TextMode f = f

-- ---- every line; inline quantities apart

unfoldable pub inside_follow : rules.Inside → Follow → Follow
inside_follow (end_event k) f = close_follow (counter_after f.block f) f
inside_follow (text_event t) f = f
inside_follow (component_event c) f = component_follow c f.block f

module _ (flags : ℕ) where
  unfoldable pub between_follow : rules.Between → Follow → Follow
  between_follow (meta_event k v) f = meta_follow (meta_of flags k v) f
  between_follow (section_event n) f = section_follow (is_some n) f
  between_follow (start_event k) f = start_follow (opens_as f.define k) f

  unfoldable pub next_follow : rules.Event → Follow → Follow
  next_follow (between b) f = between_follow b f
  next_follow (inside i) f = inside_follow i f
  next_follow (parser_event s n) f = f

unfoldable pub with_inline : ℕ → Follow → Follow
with_inline n f =
    record { define = f.define; block = f.block; shown = f.shown; counter = f.counter; ingredients = f.ingredients; cookware = f.cookware; timers = f.timers; inline = n; old = f.old }

-- ---- the contracts

pub record MetaRead (flags : ℕ) (line : List ℕ) (key value : TextView) (r : Meta) : Type 0 where
  pub is : r ≡ meta_of flags (text_in line key) (text_in line value)

pub record BetweenFollowed (flags : ℕ) (line : List ℕ) (b : Between) (f r : Follow) : Type 0 where
  pub is : r ≡ between_follow flags (between_in line b) f

pub record EventFollowed (flags : ℕ) (line : List ℕ) (e : EventView) (f r : Follow) : Type 0 where
  pub is : r ≡ next_follow flags (event_in line e) f

-- lines whose text is not asked
pub record ComponentCounted (c : ComponentEvent) (f r : Follow) : Type 0 where
  pub at : (line : List ℕ) → r ≡ count_component (component_event_in line c) f

pub record InsideFollowed (i : Inside) (f r : Follow) : Type 0 where
  pub at : (line : List ℕ) → r ≡ inside_follow (inside_in line i) f

-- counts far below what a number holds
pub record Room (f : Follow) : Type 0 where
  pub counter : f.counter ≤ 100000
  pub ingredients : f.ingredients ≤ 100000
  pub cookware : f.cookware ≤ 100000
  pub timers : f.timers ≤ 100000
  pub inline : f.inline ≤ 100000

-- a line of the sheet, which adds n inline quantities
pub record Followed (flags : ℕ) (line : List ℕ) (e : EventView) (n : ℕ) (f r : Follow) : Type 0 where
  pub is : r ≡ with_inline (f.inline + n) (next_follow flags (event_in line e) f)
  pub by :
      (cx : Context) → cx.flags ≡ flags → (st st' : State) → on_event cx (event_in line e) st ≡ next st' → Follows st f
      → length st'.tables.inline ≡ f.inline + n → Follows st' r

-- what the second walk counts is at most n: after n lines it is, as a line counts at most one more
pub record Counts (n : ℕ) (f : Follow) : Type 0 where
  pub counter : f.counter ≤ n
  pub ingredients : f.ingredients ≤ n
  pub cookware : f.cookware ≤ n
  pub timers : f.timers ≤ n
