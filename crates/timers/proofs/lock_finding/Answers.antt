use Rattle.timers.proofs.Timers.{lock_none, lock_free, lock_found}
use Rattle.timers.proofs.lock_finding.Goals as goal

pub returns-in_err-q : goal.returns-in_err-q
returns-in_err-q c = rw c.from_residual.ensures (lock_none c.in_err-q.was)

pub returns-then-q : goal.returns-then-q
returns-then-q c = lock_found _ c.in_ok-q.was c.if-q.true c.one_span.ensures

pub returns : goal.returns
returns c = lock_free _ c.in_ok-q.was c.if-q.false
