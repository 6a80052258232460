-- What the writers of a line's sections leave: the line's bytes at the front of a buffer that held o₀, or they do not fit.
use Rattle.std.specs.Prelude.{ℕ, ◌≡◌, List, length}
use Rattle.rules.specs.Words as words
use Rattle.rules.specs.Event as rules
use Rattle.rules.specs.Units.{NamedUnit}
use Rattle.rules.specs.Page.{item_line}
use Rattle.output.specs.Put.{Put}
use Rattle.parts.specs.Views.{text_in}
use Rattle.parts.specs.declared.TextView.{TextView}
use Rattle.events.specs.Views.{between_in, component_event_in, inside_in, event_in}
use Rattle.events.specs.declared.Between.{Between}
use Rattle.events.specs.declared.ComponentEvent.{ComponentEvent}
use Rattle.events.specs.declared.Inside.{Inside}
use Rattle.events.specs.declared.EventView.{EventView}
use Rattle.model.specs.declared.Open.{Open}
use Rattle.step_lines.specs.declared.TextItems.{TextItems}
use Rattle.following.specs.Drawn.{component_item, inside_adds, sections_add, quantities_added}
use Rattle.following.specs.declared.Follow.{Follow}

-- an item's line
pub record ItemDrawn (c : ComponentEvent) (f : Follow) (o₀ o : List ℕ) (r : ℕ) : Type 0 where
  pub at : (line : List ℕ) → Put (item_line 0 (component_item (component_event_in line c) f)) o₀ 0 o r

-- `end` in the block b
pub record EndDrawn (b : Open) (o₀ o : List ℕ) (r : ℕ) : Type 0 where
  pub at : (text : List ℕ) (units : List NamedUnit) (flags : ℕ) (k : words.BlockKind) (f : Follow) → Put (inside_adds text units flags (rules.end_event k) b f) o₀ 0 o r

-- a component in its block
pub record ComponentDrawn (text : List ℕ) (c : ComponentEvent) (f : Follow) (o₀ o : List ℕ) (r : ℕ) : Type 0 where
  pub at : (units : List NamedUnit) (flags : ℕ) (line : List ℕ) → Put (inside_adds text units flags (rules.component_event (component_event_in line c)) f.block f) o₀ 0 o r

-- a text in its block
pub record TextDrawn (units : List NamedUnit) (flags : ℕ) (line : List ℕ) (v : TextView) (f : Follow) (o₀ o : List ℕ) (r : TextItems) : Type 0 where
  pub put : (text : List ℕ) → Put (inside_adds text units flags (rules.text_event (text_in line v)) f.block f) o₀ 0 o r.count
  pub inline : r.inline ≡ length (quantities_added units flags (rules.inside (rules.text_event (text_in line v))) f)

-- a line between blocks
pub record BetweenDrawn (line : List ℕ) (b : Between) (f : Follow) (o₀ o : List ℕ) (r : ℕ) : Type 0 where
  pub at : (text : List ℕ) (units : List NamedUnit) (flags : ℕ) → Put (sections_add text units flags (rules.between (between_in line b)) f) o₀ 0 o r

-- a line in a block
pub record InsideDrawn (text : List ℕ) (units : List NamedUnit) (flags : ℕ) (line : List ℕ) (i : Inside) (f : Follow) (o₀ o : List ℕ) (r : TextItems) : Type 0 where
  pub put : Put (inside_adds text units flags (inside_in line i) f.block f) o₀ 0 o r.count
  pub inline : r.inline ≡ length (quantities_added units flags (rules.inside (inside_in line i)) f)

-- every line: its bytes, and how many inline quantities it adds
pub record SectionsDrawn (text : List ℕ) (units : List NamedUnit) (flags : ℕ) (line : List ℕ) (e : EventView) (f : Follow) (o₀ o : List ℕ) (r : TextItems) : Type 0 where
  pub put : Put (sections_add text units flags (event_in line e) f) o₀ 0 o r.count
  pub inline : r.inline ≡ length (quantities_added units flags (event_in line e) f)
