use Rattle.parts.specs.Views.{span_in}
use Rattle.metadata.proofs.wrong_value.Goals as goal

pub returns : goal.returns
unfolding span_in
returns c = c.two_spans.ensures
