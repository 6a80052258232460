use Rattle.rules.specs.Read.{read_cookware}
use Rattle.events.specs.Views.{event_in, inside_in, EventWithin, InsideWithin, component_event_in, ComponentEventWithin}
use Rattle.parts.proofs.Sequence.{gives, reads, good_of, ends}
use Rattle.events.proofs.read_cookware.Goals as goal

pub returns : goal.returns
unfolding read_cookware event_in inside_in EventWithin InsideWithin component_event_in ComponentEventWithin
returns c = reads (ends c.in_ok-component.ensures _ (gives _ _)) (good_of c.in_ok-component.ensures)
