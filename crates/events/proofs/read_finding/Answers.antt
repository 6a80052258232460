use Rattle.rules.specs.Read.{read_finding}
use Rattle.events.specs.Views.{event_in, EventWithin}
use Rattle.parts.proofs.Sequence.{gives, reads, good_of, goes}
use Rattle.events.proofs.read_finding.Goals as goal

pub returns : goal.returns
unfolding read_finding event_in EventWithin
returns c = reads (goes c.in_ok-number.ensures _ (gives _ _)) (good_of c.in_ok-number.ensures)
