use mathlib.Core.Path.{sym}
use lib.Seq.{length-take-le}
use Rattle.text.proofs.Trims.{trimmed_front}
use Rattle.text.proofs.trimmed_end.Goals as goal

pub slice_bounds-result-end : goal.slice_bounds-result-end
slice_bounds-result-end c = sym (length-take-le _ _ c.end_of-e.ensures.most)

pub returns : goal.returns
returns c = trimmed_front _ c.end_of-e.ensures
