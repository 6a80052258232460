use Rattle.std.proofs.Common.{arith}
use Rattle.sheet.proofs.Runs.{lacking_on}
use Rattle.parts.proofs.past_plain.Goals as goal

pub loop-i-init : goal.loop-i-init
loop-i-init c = (c.past_sixteens-i.ensures.inside c.requires, c.past_sixteens-i.ensures)

pub loop-i-preserved : goal.loop-i-preserved
loop-i-preserved c = (omega arith, lacking_on 8 c.loop-i.invariant.1 (omega arith) _ c.eight_plain.ensures c.if-not-eight_plain.false-raw)
