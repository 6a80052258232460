use Rattle.sheet.proofs.Digits.{signed_none, minus_bad, minus_zero, minus_is, plus_bad, plus_is}
use Rattle.sheet.proofs.read_signed.Goals as goal

pub returns-then-f-eq0 : goal.returns-then-f-eq0
returns-then-f-eq0 c = signed_none _ c.if-f-eq0.true

pub returns-in_err-n : goal.returns-in_err-n
returns-in_err-n c = rw c.from_residual.ensures (minus_bad _ c.if-f-eq0.false c.if-f-eq45.true c.read_up_to.ensures c.in_err-n.was)

pub returns-then-n-eq0 : goal.returns-then-n-eq0
returns-then-n-eq0 c = minus_zero _ c.if-f-eq0.false c.if-f-eq45.true c.read_up_to.ensures c.in_ok-n.was c.if-n-eq0.true

pub returns-then-f-eq45 : goal.returns-then-f-eq45
returns-then-f-eq45 c = minus_is _ c.if-f-eq0.false c.if-f-eq45.true c.read_up_to.ensures c.in_ok-n.was c.if-n-eq0.false

pub returns-in_err-m : goal.returns-in_err-m
returns-in_err-m c = rw c.from_residual-in_err-m.ensures (plus_bad _ c.if-f-eq0.false c.if-f-eq45.false c.read_up_to-2.ensures c.in_err-m.was)

pub returns : goal.returns
returns c = plus_is _ c.if-f-eq0.false c.if-f-eq45.false c.read_up_to-2.ensures c.in_ok-m.was
