use Prim.Native.Nat.{◌-◌}
use mathlib.Core.Path.{◌≡◌}
use lib.ListN.{length}
use Rattle.meta_map.proofs.Walks.{Indexing}
use Rattle.meta_map.proofs.index_lines.Given as goal

abbrev pub invariant-loop-from : goal.invariant-loop-from
invariant-loop-from l = Indexing l.flags l.sheet.text.now l.sheet.bytes.now l.map.words.now l.map.rows l.from × (l.map.sheet.now ≡ l.sheet.bytes.now) × (l.map.words.ghost_name ≡ l.initial.map.words.ghost_name)

abbrev pub decreases-loop-from : goal.decreases-loop-from
decreases-loop-from l = length l.sheet.bytes.now - l.from
