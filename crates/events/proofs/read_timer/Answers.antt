use Rattle.rules.specs.Read.{read_timer}
use Rattle.events.specs.Views.{event_in, inside_in, EventWithin, InsideWithin, component_event_in, ComponentEventWithin}
use Rattle.parts.proofs.Sequence.{gives, reads, good_of, goes, ends}
use Rattle.events.proofs.read_timer.Goals as goal

pub returns : goal.returns
unfolding read_timer event_in inside_in EventWithin InsideWithin component_event_in ComponentEventWithin
returns c = reads (goes c.in_ok-span.ensures _ (goes c.in_ok-name.ensures _ (ends c.in_ok-quantity.ensures _ (gives _ _)))) (good_of c.in_ok-span.ensures, good_of c.in_ok-name.ensures, good_of c.in_ok-quantity.ensures)
