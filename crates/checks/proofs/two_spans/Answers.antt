use Rattle.parts.specs.Views.{span_in}
use Rattle.checks.proofs.two_spans.Goals as goal

pub returns : goal.returns
unfolding span_in
returns c = c.two_spans.ensures
