use borrow.Author.Rules.{rules}
use Rattle.fronts.proofs.Seams.{common_back, seam_none}
use Rattle.fronts.proofs.seam.Goals as goal

pub returns-then-is_seam : goal.returns-then-is_seam
returns-then-is_seam c = c.is_seam.ensures c.if-is_seam.true

pub loop-i-preserved : goal.loop-i-preserved
loop-i-preserved c = search (rules, common_back)

pub returns : goal.returns
returns c = seam_none _ _
