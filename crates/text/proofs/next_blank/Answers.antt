use native.Mathlib.Omega.{arith}
use mathlib.Core.Path.{◌≡◌}
use lib.ListN.{length}
use Rattle.sheet.proofs.Runs.{lacking_more}
use Rattle.text.proofs.next_blank.Goals as goal

pub loop-i-init : goal.loop-i-init
loop-i-init c = (c.past_lacking-i.ensures.inside c.requires, c.past_lacking-i.ensures)

pub returns-then-w-i-eq32 : goal.returns-then-w-i-eq32
returns-then-w-i-eq32 c = record { before = c.loop-i.invariant.1; inside = c.loop-i.invariant.0; here = λ l. c.if-w-i-eq32.true }

pub loop-i-preserved : goal.loop-i-preserved
loop-i-preserved c = (omega (arith, c.loop-i-test.true), lacking_more c.loop-i.invariant.1 c.loop-i-test.true c.if-w-i-eq32.false)

pub returns : goal.returns
returns c =
    let e : length c.args.w.now ≡ c.loop-i.i = omega (arith, c.loop-i-test.false, c.loop-i.invariant.0) in
    rw e (record { before = c.loop-i.invariant.1; inside = c.loop-i.invariant.0; here = λ l. absurd (omega (arith, c.loop-i-test.false)) })
