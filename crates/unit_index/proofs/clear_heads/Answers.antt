use mathlib.Core.Path.{sym}
use native.Mathlib.Omega.{arith}
use lib.Seq.{length-take-le}
use Rattle.unit_index.proofs.Adds.{heads_cleared}
use Rattle.unit_index.proofs.clear_heads.Goals as goal

pub slice_bounds-fill-end-2 : goal.slice_bounds-fill-end-2
slice_bounds-fill-end-2 c = sym (length-take-le 256 c.args.index.now (omega (arith, c.told-index)))

pub returns : goal.returns
returns c = heads_cleared c.args.index.now c.told-index (c.fill.ensures.after (λ y e. e))
