use Rattle.rules.specs.Read.{read_ingredient}
use Rattle.events.specs.Views.{event_in, inside_in, EventWithin, InsideWithin, component_event_in, ComponentEventWithin}
use Rattle.parts.proofs.Sequence.{gives, reads, good_of, goes, ends}
use Rattle.events.proofs.read_ingredient.Goals as goal

pub returns : goal.returns
unfolding read_ingredient event_in inside_in EventWithin InsideWithin component_event_in ComponentEventWithin
returns c = reads (ends c.in_ok-component.ensures _ (goes c.in_ok-intermediate.ensures _ (gives _ _))) (good_of c.in_ok-component.ensures, good_of c.in_ok-intermediate.ensures)
