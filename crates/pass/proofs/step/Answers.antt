use mathlib.Core.Path.{ap}
use Rattle.std.proofs.result.Match.{err_is}
use Rattle.blocks.specs.Lined.{left}
use Rattle.pass.proofs.Steps.{step_failed, step_over, step_stopped, step_going}
use Rattle.pass.proofs.step.Goals as goal

pub returns-then-is_error-clause-done : goal.returns-then-is_error-clause-done
returns-then-is_error-clause-done c = step_failed c.is_error.ensures c.if-is_error.true

pub on_event-requires : goal.on_event-requires
on_event-requires c = c.requires

pub returns-in_err-on_event-clause-done : goal.returns-in_err-on_event-clause-done
returns-in_err-on_event-clause-done c = rw (err_is _ _ c.from_residual.ensures.1) (step_stopped c.is_error.ensures c.if-is_error.false c.on_event.ensures.done _ (ap (left _) c.in_err-on_event.was))

pub returns-in_err-check_limits-clause-done : goal.returns-in_err-check_limits-clause-done
returns-in_err-check_limits-clause-done c = rw (err_is _ _ c.from_residual-in_err-check_limits.ensures.1) (step_over c.is_error.ensures c.if-is_error.false c.on_event.ensures.done _ (ap (left _) c.in_ok-on_event.was) c.check_limits.ensures _ c.in_err-check_limits.was)

pub returns-clause-done : goal.returns-clause-done
returns-clause-done c = step_going c.is_error.ensures c.if-is_error.false c.on_event.ensures.done _ (ap (left _) c.in_ok-on_event.was) c.check_limits.ensures c.in_ok-check_limits.was c.requires.0 c.requires.1
