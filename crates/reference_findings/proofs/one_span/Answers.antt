use Rattle.parts.specs.Views.{span_in}
use Rattle.reference_findings.proofs.one_span.Goals as goal

pub returns : goal.returns
unfolding span_in
returns c = c.one_span.ensures
