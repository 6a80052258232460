use native.Mathlib.Omega.{arith}
use mathlib.Core.Path.{◌≡◌, refl}
use lib.ListN.{length}
use Rattle.reading.proofs.Leading.{leads_short, leads_on, leads_off, leads_end}
use Rattle.reading.proofs.leads.Goals as goal

pub returns-then-line-word : goal.returns-then-line-word
returns-then-line-word c = leads_short _ _ c.if-line-word.true

pub loop-i-init : goal.loop-i-init
loop-i-init c = (omega arith, refl)

pub returns-then-line-i : goal.returns-then-line-i
returns-then-line-i c = leads_off _ _ _ c.loop-i.invariant.1 (omega arith) c.loop-i-test.true c.if-line-i.true

pub loop-i-preserved : goal.loop-i-preserved
loop-i-preserved c = (omega arith, leads_on _ _ _ c.loop-i.invariant.1 (omega arith) c.loop-i-test.true c.if-line-i.false)

pub returns : goal.returns
returns c = let e : length c.args.word.now ≡ c.loop-i.i = omega arith in rw e (leads_end _ _ _ c.loop-i.invariant.1 (omega arith) c.loop-i-test.false)
