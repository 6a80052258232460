use Prim.Native.Nat.{◌-◌}
use lib.ListN.{length}
use Rattle.page.proofs.Drawing.{Walked}
use Rattle.page.proofs.walk.draw_part.Given as goal

abbrev pub invariant-loop-from : goal.invariant-loop-from
invariant-loop-from l = Walked l.sheet.bytes.now l.sheet.text.now l.units.lines.now l.flags l.p l.initial.out l.at l.from l.f l.out l.n

abbrev pub decreases-loop-from : goal.decreases-loop-from
decreases-loop-from l = length l.sheet.bytes.now - l.from
