use Rattle.output.proofs.Puts.{starts, turn, step, ends_in, ends_out}
use Rattle.entry_lines.proofs.Relations.{turn_more, turn_none, next_fewer}
use Rattle.entry_lines.proofs.put_more.Goals as goal

pub loop-r-init : goal.loop-r-init
loop-r-init c = starts

pub returns-then-n-out : goal.returns-then-n-out
returns-then-n-out c = ends_in (turn (turn_none c.next_referrer.ensures c.in-None.is) c.loop-r.invariant) c.if-n-out.true

pub returns-in-None : goal.returns-in-None
returns-in-None c = ends_out (turn (turn_none c.next_referrer.ensures c.in-None.is) c.loop-r.invariant) c.if-n-out.false

pub loop-r-smaller : goal.loop-r-smaller
loop-r-smaller c = next_fewer c.next_referrer.ensures c.in-Some.is

pub loop-r-preserved : goal.loop-r-preserved
loop-r-preserved c = step _ (step _ (turn (turn_more c.next_referrer.ensures c.in-Some.is) c.loop-r.invariant) c.put_byte-a.ensures) c.put_decimal-n.ensures

pub next_referrer-requires : goal.next_referrer-requires
next_referrer-requires c = c.requires
