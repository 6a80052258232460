use native.Mathlib.Omega.{arith}
use mathlib.Core.Path.{sym}
use Rattle.stored_cases.specs.Cases.{case_at}
use Rattle.stored_cases.proofs.Words.{on_line_within}
use Rattle.stored_cases.proofs.case_at.Goals as goal

pub returns-in_err-a : goal.returns-in_err-a
unfolding case_at
returns-in_err-a c = rw (c.from_residual.ensures, ← c.in_err-a.ensures)

pub returns-in_err-room : goal.returns-in_err-room
unfolding case_at
returns-in_err-room c = rw (c.from_residual-in_err-room.ensures, ← c.in_ok-a.ensures, ← c.in_err-room.ensures)

pub returns-in_err-end : goal.returns-in_err-end
unfolding case_at
returns-in_err-end c = rw (c.from_residual-in_err-end.ensures, ← c.in_ok-a.ensures, ← c.in_ok-room.ensures, ← c.in_err-end.ensures)

pub overflow_add-result : goal.overflow_add-result
overflow_add-result c = let k = on_line_within _ _ _ (sym c.in_ok-end.ensures) in omega (arith, k.1)

pub returns : goal.returns
unfolding case_at
returns c = rw (← c.in_ok-a.ensures, ← c.in_ok-room.ensures, ← c.in_ok-end.ensures)
