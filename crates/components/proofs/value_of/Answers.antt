use Rattle.rules.specs.Basic.{on_some}
use Rattle.sheet.specs.Numbers.{signed_in as signed_number}
use Rattle.components.specs.Views.{signed_in}
use Rattle.components.proofs.value_of.Goals as goal

pub returns-in_err-signed : goal.returns-in_err-signed
unfolding on_some
returns-in_err-signed c = rw c.from_residual.ensures c.in_err-signed.ensures

pub returns-in-Plus : goal.returns-in-Plus
unfolding on_some signed_number signed_in
returns-in-Plus c = rw c.in-Plus.is at c.in_ok-signed.ensures

pub returns-in-Minus : goal.returns-in-Minus
unfolding on_some signed_number signed_in
returns-in-Minus c = rw c.in-Minus.is at c.in_ok-signed.ensures
