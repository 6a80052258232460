use Prim.Native.Nat.{◌-◌}
use lib.ListN.{length}
use Rattle.plain_walk.proofs.Turns.{Looping}
use Rattle.plain_walk.proofs.plain_form_lines.Given as goal

abbrev pub invariant-loop-at : goal.invariant-loop-at
invariant-loop-at l = Looping l.sheet.text.now l.flags l.sheet.bytes.now l.stored.words.now l.stored.held l.initial.out l.at l.number l.f l.out l.n

abbrev pub decreases-loop-at : goal.decreases-loop-at
decreases-loop-at l = length l.sheet.bytes.now - l.at
