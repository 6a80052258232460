use native.Mathlib.Omega.{arith}
use Rattle.output.proofs.Puts.{starts, turn, step, ends_in, ends_out}
use Rattle.text.proofs.Paths.{back_within, path_two, path_goes, path_stays, path_end}
use Rattle.text.proofs.put_path.Goals as goal

pub loop-i-init : goal.loop-i-init
loop-i-init c = starts

pub overflow_add-i : goal.overflow_add-i
overflow_add-i c = omega (arith, back_within _ _ c.is_back.ensures c.if-is_back.true)

pub loop-i-smaller-then-is_back : goal.loop-i-smaller-then-is_back
loop-i-smaller-then-is_back c = omega (arith, back_within _ _ c.is_back.ensures c.if-is_back.true)

pub loop-i-preserved-then-is_back : goal.loop-i-preserved-then-is_back
loop-i-preserved-then-is_back c = step _ (turn (path_two _ _ c.is_back.ensures _ c.if-is_back.true) c.loop-i.invariant) c.put_byte-n.ensures

pub loop-i-preserved-then-not-gone : goal.loop-i-preserved-then-not-gone
loop-i-preserved-then-not-gone c = step _ (turn (path_stays _ _ c.is_back.ensures c.loop-i-test.true c.if-is_back.false _ c.goes-gone.ensures c.if-not-gone.true-raw) c.loop-i.invariant) c.put_byte-n-then-not-gone.ensures

pub loop-i-preserved : goal.loop-i-preserved
loop-i-preserved c = turn (path_goes _ _ c.is_back.ensures c.loop-i-test.true c.if-is_back.false _ c.goes-gone.ensures c.if-not-gone.false-raw) c.loop-i.invariant

pub returns-then-n-out : goal.returns-then-n-out
returns-then-n-out c = ends_in (turn (path_end _ _ _ c.loop-i-test.false) c.loop-i.invariant) c.if-n-out.true

pub returns-else-n-out : goal.returns-else-n-out
returns-else-n-out c = ends_out (turn (path_end _ _ _ c.loop-i-test.false) c.loop-i.invariant) c.if-n-out.false
