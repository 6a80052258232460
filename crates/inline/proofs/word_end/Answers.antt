use native.Mathlib.Omega.{arith}
use Rattle.inline.proofs.Scans.{going_start, going_stop, going_on, going_end, stops_at, goes_by}
use Rattle.inline.proofs.Wide.{solid_passed, e3_passed}
use Rattle.inline.specs.Scans.{is_not_white}
use Rattle.inline.proofs.word_end.Goals as goal

pub loop-i-init : goal.loop-i-init
loop-i-init c = going_start _ _ _ c.requires.0 c.requires.1

pub overflow_add-i : goal.overflow_add-i
overflow_add-i c = omega (arith, (solid_passed c.loop-i.invariant c.loop-i-test.true c.is_solid.ensures c.if-is_solid.true c.lead_size-i.ensures).most)

pub loop-i-smaller-then-is_solid : goal.loop-i-smaller-then-is_solid
loop-i-smaller-then-is_solid c = let k = solid_passed c.loop-i.invariant c.loop-i-test.true c.is_solid.ensures c.if-is_solid.true c.lead_size-i.ensures in
    omega (arith, k.least, k.most)

pub loop-i-preserved-then-is_solid : goal.loop-i-preserved-then-is_solid
loop-i-preserved-then-is_solid c = (solid_passed c.loop-i.invariant c.loop-i-test.true c.is_solid.ensures c.if-is_solid.true c.lead_size-i.ensures).still

pub overflow_add-i-then-is_solid_e3 : goal.overflow_add-i-then-is_solid_e3
overflow_add-i-then-is_solid_e3 c = omega (arith, (e3_passed c.loop-i.invariant c.loop-i-test.true c.is_solid_e3.ensures c.if-is_solid_e3.true).most)

pub loop-i-smaller-then-is_solid_e3 : goal.loop-i-smaller-then-is_solid_e3
loop-i-smaller-then-is_solid_e3 c = let k = e3_passed c.loop-i.invariant c.loop-i-test.true c.is_solid_e3.ensures c.if-is_solid_e3.true in
    omega (arith, k.most)

pub loop-i-preserved-then-is_solid_e3 : goal.loop-i-preserved-then-is_solid_e3
loop-i-preserved-then-is_solid_e3 c = (e3_passed c.loop-i.invariant c.loop-i-test.true c.is_solid_e3.ensures c.if-is_solid_e3.true).still

pub returns-then-is_white_space : goal.returns-then-is_white_space
unfolding is_not_white
returns-then-is_white_space c = going_stop c.loop-i.invariant _ c.loop-i-test.true c.char_in-c.ensures (stops_at c.is_white_space.ensures c.if-is_white_space.true)

pub loop-i-preserved : goal.loop-i-preserved
unfolding is_not_white
loop-i-preserved c = going_on c.loop-i.invariant _ c.loop-i-test.true c.char_in-c.ensures (goes_by c.is_white_space.ensures c.if-is_white_space.false)

pub returns : goal.returns
returns c = going_end c.loop-i.invariant c.loop-i-test.false
