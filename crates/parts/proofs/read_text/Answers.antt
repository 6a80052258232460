use Rattle.rules.specs.Read.{read_text}
use Rattle.parts.specs.Views.{text_in}
use Rattle.parts.proofs.Sequence.{gives, reads, good_of, goes}
use Rattle.parts.proofs.read_text.Goals as goal

pub returns : goal.returns
unfolding read_text text_in
returns c = reads (goes c.in_ok-span.ensures _ (goes c.in_ok-content.ensures _ (gives _ _))) (record { span = good_of c.in_ok-span.ensures; content = good_of c.in_ok-content.ensures })
