use mathlib.Core.Path.{refl, sym}
use Prim.Native.Nat.{ℕ}
use lib.ListN.{length-replicate}
use Rattle.program.proofs.out_room.Goals as goal

pub returns : goal.returns
returns c = (sym (length-replicate {0} {A = ℕ} 1048576 0), refl)
