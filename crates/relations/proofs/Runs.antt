-- What may be printed of what the pass leaves.
use Prim.Native.Nat.{ℕ, ◌≤◌}
use mathlib.Core.List.{List}
use lib.ListN.{length}
use Rattle.model.specs.declared.Held.{Held}
use Rattle.pass.specs.Walks.{Running}
use Rattle.pass.proofs.Rooms.{bounded}

-- what is counted is far from wrapping
pub recipe_counts : {sheet w : List ℕ} {h : Held} → Running sheet w h (length sheet) → length sheet ≤ 65536 → (h.counts.sections ≤ 128) × (h.counts.findings ≤ 1024)
recipe_counts r s = let b = bounded r s in (b.sections, b.findings)
