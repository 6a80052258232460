use Rattle.rules.specs.Read.{read_text_line}
use Rattle.events.specs.Views.{event_in, inside_in, EventWithin, InsideWithin}
use Rattle.parts.proofs.Sequence.{gives, reads, good_of, goes}
use Rattle.events.proofs.read_text_line.Goals as goal

pub returns : goal.returns
unfolding read_text_line event_in inside_in EventWithin InsideWithin
returns c = reads (goes c.in_ok-text.ensures _ (gives _ _)) (good_of c.in_ok-text.ensures)
