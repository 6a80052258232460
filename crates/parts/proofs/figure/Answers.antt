use Rattle.std.proofs.Common.{arith}
use Rattle.parts.proofs.Near.{figure_is}
use Rattle.parts.proofs.figure.Goals as goal

pub returns : goal.returns
returns c = figure_is _ _ (omega arith) (omega arith) c.wrapping_sub_u32.ensures.value
