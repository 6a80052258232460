-- What the writers of a line's part of the page leave: timers, inline quantities, the spans of finding 3, and any part.
use Rattle.std.specs.Prelude.{ℕ, ◌≡◌, List, length}
use Rattle.rules.specs.Event as rules
use Rattle.rules.specs.Units.{NamedUnit}
use Rattle.output.specs.Put.{Put}
use Rattle.parts.specs.Views.{text_in}
use Rattle.parts.specs.declared.TextView.{TextView}
use Rattle.events.specs.Views.{component_event_in, event_in}
use Rattle.events.specs.declared.ComponentEvent.{ComponentEvent}
use Rattle.events.specs.declared.EventView.{EventView}
use Rattle.step_lines.specs.declared.TextItems.{TextItems}
use Rattle.following.specs.Drawn.{timer_adds, timers_add, inline_adds, inline_add, quantities_in, quantities_added, old_add, added}
use Rattle.following.specs.declared.Follow.{Follow}
use Rattle.following.specs.declared.Part.{Part}
use Rattle.following.specs.declared.Part.TheVariants.{Sections, Timers, Inline, Old}

-- a component among the timers
pub record TimerDrawn (line : List ℕ) (c : ComponentEvent) (f : Follow) (o₀ o : List ℕ) (r : ℕ) : Type 0 where
  pub put : Put (timer_adds (component_event_in line c) f.block f) o₀ 0 o r

pub record TimersDrawn (line : List ℕ) (e : EventView) (f : Follow) (o₀ o : List ℕ) (r : ℕ) : Type 0 where
  pub put : Put (timers_add (event_in line e) f) o₀ 0 o r

-- the inline quantities of a text in its block
pub record QuantitiesDrawn (units : List NamedUnit) (flags : ℕ) (line : List ℕ) (v : TextView) (f : Follow) (o₀ o : List ℕ) (r : TextItems) : Type 0 where
  pub put : Put (inline_adds units flags (text_in line v) f.block f) o₀ 0 o r.count
  pub inline : r.inline ≡ length (quantities_in units flags (text_in line v) f.block f)

pub record InlineDrawn (units : List NamedUnit) (flags : ℕ) (line : List ℕ) (e : EventView) (f : Follow) (o₀ o : List ℕ) (r : TextItems) : Type 0 where
  pub put : Put (inline_add units flags (event_in line e) f) o₀ 0 o r.count
  pub inline : r.inline ≡ length (quantities_added units flags (event_in line e) f)

-- the span of a `meta` line that counts for finding 3
pub record MetaDrawn (flags : ℕ) (line : List ℕ) (k v : TextView) (f : Follow) (o₀ o : List ℕ) (r : ℕ) : Type 0 where
  pub put : Put (old_add flags (rules.between (rules.meta_event (text_in line k) (text_in line v))) f) o₀ 0 o r

pub record OldDrawn (flags : ℕ) (line : List ℕ) (e : EventView) (f : Follow) (o₀ o : List ℕ) (r : ℕ) : Type 0 where
  pub put : Put (old_add flags (event_in line e) f) o₀ 0 o r

-- ---- any part

-- how many of n inline quantities the walk that draws the part counts: two parts do not depend on them
unfoldable pub tracked : Part → ℕ → ℕ
tracked Sections n = n
tracked Timers n = 0
tracked Inline n = n
tracked Old n = 0

-- what a line adds to the part
pub record LineDrawn (text : List ℕ) (units : List NamedUnit) (flags : ℕ) (p : Part) (line : List ℕ) (e : EventView) (f : Follow) (o₀ o : List ℕ) (r : TextItems) : Type 0 where
  pub put : Put (added text units flags p (event_in line e) f) o₀ 0 o r.count
  pub inline : r.inline ≡ tracked p (length (quantities_added units flags (event_in line e) f))
