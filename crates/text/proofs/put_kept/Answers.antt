use mathlib.Core.Path.{refl}
use Rattle.output.proofs.Puts.{starts, turn, step, ends_in, ends_out}
use Rattle.text.proofs.Writes.{retain_goes, retain_stays, retain_none}
use Rattle.text.proofs.Singles.{put_single}
use Rattle.text.proofs.put_kept.Goals as goal

pub returns-then-is_single : goal.returns-then-is_single
returns-then-is_single c = put_single c.is_single.ensures c.if-is_single.true c.put_bytes.ensures

pub loop-i-init : goal.loop-i-init
loop-i-init c = starts

pub loop-i-preserved-then-not-gone : goal.loop-i-preserved-then-not-gone
loop-i-preserved-then-not-gone c = step _ (turn (retain_stays _ _ _ _ _ c.loop-i-test.true refl c.goes-gone.ensures c.if-not-gone.true-raw) c.loop-i.invariant) c.put_byte-n.ensures

pub loop-i-preserved : goal.loop-i-preserved
loop-i-preserved c = turn (retain_goes _ _ _ _ _ c.loop-i-test.true refl c.goes-gone.ensures c.if-not-gone.false-raw) c.loop-i.invariant

pub returns-then-n-out : goal.returns-then-n-out
returns-then-n-out c = ends_in (turn (retain_none _ _ _ c.loop-i-test.false) c.loop-i.invariant) c.if-n-out.true

pub returns-else-n-out : goal.returns-else-n-out
returns-else-n-out c = ends_out (turn (retain_none _ _ _ c.loop-i-test.false) c.loop-i.invariant) c.if-n-out.false
