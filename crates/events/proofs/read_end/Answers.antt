use Rattle.rules.specs.Read.{read_end}
use Rattle.events.specs.Views.{event_in, inside_in, EventWithin, InsideWithin}
use Rattle.parts.proofs.Sequence.{gives, reads, goes}
use Rattle.events.proofs.read_end.Goals as goal

pub returns : goal.returns
unfolding read_end event_in inside_in EventWithin InsideWithin
returns c = reads (goes c.in_ok-kind.ensures _ (gives _ _)) (tt)
