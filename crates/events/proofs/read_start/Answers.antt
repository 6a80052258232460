use Rattle.rules.specs.Read.{read_start}
use Rattle.events.specs.Views.{event_in, between_in, EventWithin, BetweenWithin}
use Rattle.parts.proofs.Sequence.{gives, reads, goes}
use Rattle.events.proofs.read_start.Goals as goal

pub returns : goal.returns
unfolding read_start event_in between_in EventWithin BetweenWithin
returns c = reads (goes c.in_ok-kind.ensures _ (gives _ _)) (tt)
