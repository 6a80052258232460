use Rattle.parts.specs.Views.{span_in}
use Rattle.metadata.proofs.unknown_key.Goals as goal

pub returns : goal.returns
unfolding span_in
returns c = c.one_span.ensures
