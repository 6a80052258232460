use Rattle.output.proofs.Texts.{decimal_last, decimal_next}
use Rattle.output.proofs.+put_decimal.Goals as goal

pub returns-then-n-lt10 : goal.returns-then-n-lt10
returns-then-n-lt10 t c = decimal_last c.if-n-lt10.true c.put_byte.ensures

pub returns : goal.returns
returns t c = decimal_next c.ranges.n.fits c.if-n-lt10.false c.put_decimal-m.ensures c.put_byte-2.ensures
