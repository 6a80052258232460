use Rattle.std.proofs.Common.{arith}
use Rattle.sheet.proofs.Runs.{lacking_none, lacking_on}
use Rattle.parts.proofs.past_sixteens.Goals as goal

pub loop-i-init : goal.loop-i-init
loop-i-init c = (c.requires, lacking_none _ _ _)

pub loop-i-preserved : goal.loop-i-preserved
loop-i-preserved c = (omega arith, lacking_on 16 c.loop-i.invariant.1 (omega arith) _ c.sixteen_plain.ensures c.if-not-sixteen_plain.false-raw)

pub returns-then-line-lt16 : goal.returns-then-line-lt16
returns-then-line-lt16 c = lacking_none _ _ _
