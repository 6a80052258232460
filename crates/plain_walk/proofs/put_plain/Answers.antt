use native.Mathlib.Omega.{arith}
use Rattle.plain_walk.proofs.Writes.{write_past, rest_most, write_rest}
use Rattle.plain_walk.proofs.put_plain.Goals as goal

pub returns-then-out-at : goal.returns-then-out-at
returns-then-out-at c = write_past _ _ _ _ _ c.if-out-at.true

pub overflow_add-result-2 : goal.overflow_add-result-2
overflow_add-result-2 c = record { fits = omega (arith, rest_most c.args.out.now _ c.if-out-at.false c.plain_line.ensures) }

pub returns : goal.returns
returns c = write_rest _ _ c.if-out-at.false c.plain_line.ensures
