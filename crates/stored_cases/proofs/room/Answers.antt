use mathlib.Core.Path.{refl, sym}
use Prim.Native.Nat.{ℕ}
use lib.ListN.{length-replicate}
use Rattle.stored_cases.proofs.room.Goals as goal

pub returns : goal.returns
returns c = (sym (length-replicate {0} {A = ℕ} 2097152 0), refl)
