use Rattle.rules.specs.Read.{read_meta}
use Rattle.events.specs.Views.{event_in, between_in, EventWithin, BetweenWithin}
use Rattle.parts.proofs.Sequence.{gives, reads, good_of, goes}
use Rattle.events.proofs.read_meta.Goals as goal

pub returns : goal.returns
unfolding read_meta event_in between_in EventWithin BetweenWithin
returns c = reads (goes c.in_ok-key.ensures _ (goes c.in_ok-value.ensures _ (gives _ _))) (good_of c.in_ok-key.ensures, good_of c.in_ok-value.ensures)
