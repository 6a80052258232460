use Prim.Native.Nat.{◌-◌}
use Rattle.fronts.proofs.Seams.{seam_on}
use Rattle.fronts.proofs.level.Goals as goal

pub loop-i-preserved : goal.loop-i-preserved
loop-i-preserved c = seam_on c.letters-k.ensures c.seam.ensures
