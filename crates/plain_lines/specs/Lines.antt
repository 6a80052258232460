-- The events of the plain form's lines that are written anew.
use Rattle.std.specs.Prelude.{ℕ, List, None}
use Rattle.rules.specs.Model.{Kind, ingredient, cookware}
use Rattle.rules.specs.Event.{Span, Text, Component, ComponentEvent, ingredient_event, cookware_event}
use Rattle.rules.specs.Pass.{source_text}
use Rattle.rules.specs.Plain.{mark_ref}

-- a span and its source bytes, as a text
unfoldable pub source_at : List ℕ → Span → Text
source_at text s = record { span = s; content = source_text text s }

-- an ingredient, or cookware, with REF added; an ingredient that refers to another has no intermediate reference
unfoldable pub marked_as : Kind → Component → ComponentEvent
marked_as ingredient c = ingredient_event (mark_ref c) None
marked_as cookware c = cookware_event (mark_ref c)
