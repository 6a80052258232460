use Rattle.text.proofs.Pairs.{sharp_seam}
use Rattle.fronts.proofs.Seams.{seam_none}
use Rattle.text.proofs.meets.sharp_pair.Goals as goal

pub returns-then-starts_ss : goal.returns-then-starts_ss
returns-then-starts_ss c = sharp_seam (c.starts_sharp.ensures c.if-starts_sharp.true) (c.starts_ss.ensures c.if-starts_ss.true)

pub returns-then-starts_sharp : goal.returns-then-starts_sharp
returns-then-starts_sharp c = seam_none _ _

pub returns-then-starts_sharp-2 : goal.returns-then-starts_sharp-2
returns-then-starts_sharp-2 c = sharp_seam (c.starts_ss-2.ensures c.if-starts_ss-2.true) (c.starts_sharp-then-starts_ss-2.ensures c.if-starts_sharp-2.true)

pub returns-else-starts_sharp-2 : goal.returns-else-starts_sharp-2
returns-else-starts_sharp-2 c = seam_none _ _

pub returns-else-starts_ss-2 : goal.returns-else-starts_ss-2
returns-else-starts_ss-2 c = seam_none _ _
