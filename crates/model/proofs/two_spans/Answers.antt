use mathlib.Core.Path.{refl}
use Rattle.model.specs.Rows.{finding_of, spans_in}
use Rattle.model.proofs.two_spans.Goals as goal

pub returns : goal.returns
unfolding finding_of spans_in
returns c = refl
