use Rattle.rules.specs.Read.{read_section}
use Rattle.events.specs.Views.{event_in, between_in, EventWithin, BetweenWithin}
use Rattle.parts.proofs.Sequence.{gives, reads, good_of, ends}
use Rattle.events.proofs.read_section.Goals as goal

pub returns : goal.returns
unfolding read_section event_in between_in EventWithin BetweenWithin
returns c = reads (ends c.in_ok-name.ensures _ (gives _ _)) (good_of c.in_ok-name.ensures)
