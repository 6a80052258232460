-- What the event of a well formed line is.
use Rattle.std.specs.Prelude.{ℕ, ◌≡◌, List, Some}
use Rattle.rules.specs.Read.{parse_line}
use Rattle.events.specs.declared.EventView.{EventView}
use Rattle.events.specs.Views.{event_in, EventWithin}
use Rattle.known_events.specs.Fields.{EventFields}

-- v is the view of the line's event; its contents are whole fields of the line
pub record KnownEvent (line : List ℕ) (v : EventView) : Type 0 where
  pub is : parse_line line ≡ Some (event_in line v)
  pub within : EventWithin line v
  pub fields : EventFields line v
