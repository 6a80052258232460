use Rattle.fronts.proofs.Seams.{seam_none}
use Rattle.fronts.proofs.blank_seam.Goals as goal

pub returns-then-is_seam : goal.returns-then-is_seam
returns-then-is_seam c = c.is_seam.ensures c.if-is_seam.true

pub returns-else-i-gt0 : goal.returns-else-i-gt0
returns-else-i-gt0 c = seam_none _ _
