use native.Mathlib.Omega.{arith}
use mathlib.Core.Path.{sym}
use Rattle.stored_cases.specs.Cases.{part_at}
use Rattle.stored_cases.proofs.Words.{on_line_within}
use Rattle.stored_cases.proofs.Parts.{not_ended, is_ended}
use Rattle.stored_cases.proofs.part_at.Goals as goal

pub returns-in_err-from : goal.returns-in_err-from
unfolding part_at
returns-in_err-from c = rw (c.from_residual.ensures, ← c.in_err-from.ensures)

pub returns-in_err-to : goal.returns-in_err-to
unfolding part_at
returns-in_err-to c = rw (c.from_residual-in_err-to.ensures, ← c.in_ok-from.ensures, ← c.in_err-to.ensures)

pub overflow_add-to : goal.overflow_add-to
overflow_add-to c = let k = on_line_within _ _ _ (sym c.in_ok-to.ensures) in omega (arith, k.1)

pub returns-in_err-size : goal.returns-in_err-size
unfolding part_at
returns-in_err-size c = rw (c.from_residual-in_err-size.ensures, ← c.in_ok-from.ensures, ← c.in_ok-to.ensures, ← c.in_err-size.ensures)

pub returns-then-byte-ne10 : goal.returns-then-byte-ne10
unfolding part_at
returns-then-byte-ne10 c = rw (← c.in_ok-from.ensures, ← c.in_ok-to.ensures, ← c.in_ok-size.ensures, ← c.after-end.ensures) (not_ended _ _ _ c.byte.ensures c.if-byte-ne10.true)

pub returns : goal.returns
unfolding part_at
returns c = rw (← c.in_ok-from.ensures, ← c.in_ok-to.ensures, ← c.in_ok-size.ensures, ← c.after-end.ensures) (is_ended _ _ _ c.byte.ensures c.if-byte-ne10.false)
