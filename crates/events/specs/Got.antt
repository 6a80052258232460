-- What the readers of events answer: the rules' reading of the fields that are left.
use Rattle.std.specs.Prelude.{ℕ, List, Option}
use Rattle.rules.specs.Event.{Event}
use Rattle.rules.specs.Read.{Reader}
use Rattle.parts.specs.Got.{ReadAt}
use Rattle.events.specs.declared.EventView.{EventView}
use Rattle.events.specs.Views.{event_in, EventWithin, raw_event}

abbrev pub EventRead : Reader Event → List ℕ → ℕ → Option (EventView × ℕ) → Type 0
EventRead read line at r = ReadAt (event_in line) (EventWithin line) (raw_event line) read line at r
