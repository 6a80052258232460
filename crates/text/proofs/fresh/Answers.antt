use native.Mathlib.Omega.{arith}
use Rattle.text.proofs.Names.{fresh_end, fresh_on}
use Rattle.text.proofs.fresh.Goals as goal

pub returns-then-s-at : goal.returns-then-s-at
returns-then-s-at c = fresh_end _ _ c.if-s-at.true

pub overflow_add-at : goal.overflow_add-at
overflow_add-at c = omega (arith, c.kept_char-c.ensures.most)

pub returns : goal.returns
returns c = fresh_on c.kept_char-c.ensures _ c.fold.ensures _ c.emit.ensures
