use native.Mathlib.Omega.{arith}
use Rattle.sheet.proofs.Runs.{lacking_on}
use Rattle.sheet.proofs.past_lacking.Goals as goal

pub loop-i-preserved : goal.loop-i-preserved
loop-i-preserved c = (omega arith, lacking_on 8 c.loop-i.invariant.1 (omega arith) _ c.eight_lack.ensures c.if-not-eight_lack.false-raw)
