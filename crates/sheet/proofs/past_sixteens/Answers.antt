use native.Mathlib.Omega.{arith}
use Rattle.sheet.proofs.Runs.{lacking_on}
use Rattle.sheet.proofs.past_sixteens.Goals as goal

pub loop-i-preserved : goal.loop-i-preserved
loop-i-preserved c = (omega arith, lacking_on 16 c.loop-i.invariant.1 (omega arith) _ c.sixteen_lack.ensures c.if-not-sixteen_lack.false-raw)
