use borrow.Author.Tests.{ltb-true}
use Rattle.fronts.proofs.Seams.{opens_end, opens_low, opens_high}
use Rattle.fronts.proofs.opens.Goals as goal

pub returns-then-s-i : goal.returns-then-s-i
returns-then-s-i c = λ e. opens_end c.args.s.now c.args.i c.if-s-i.true

pub returns-then-c-lt128 : goal.returns-then-c-lt128
returns-then-c-lt128 c = λ e. opens_low c.args.s.now c.args.i c.if-c-lt128.true c.if-c-ne32.true

pub returns-else-c-lt128 : goal.returns-else-c-lt128
returns-else-c-lt128 c = λ e. opens_high c.args.s.now c.args.i (ltb-true _ _ e)
