use mathlib.Core.Path.{sym}
use lib.Seq.{length-take-le}
use Rattle.program.proofs.print_answer.Goals as goal

pub slice_bounds-write_all-end : goal.slice_bounds-write_all-end
slice_bounds-write_all-end g c = sym (length-take-le _ _ c.answer-n.ensures.fits)
