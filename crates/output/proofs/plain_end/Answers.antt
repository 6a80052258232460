use native.Mathlib.Omega.{arith}
use Rattle.output.proofs.Runs.{run_join, run_within, run_through}
use Rattle.output.proofs.plain_end.Goals as goal

pub loop-i-init : goal.loop-i-init
loop-i-init c = c.plain_pieces-i.ensures

pub returns-then-k-lt32 : goal.returns-then-k-lt32
returns-then-k-lt32 c = run_within _ _ _ c.loop-i.invariant c.copied_run-k.ensures (omega arith) (omega arith)

pub loop-i-preserved : goal.loop-i-preserved
loop-i-preserved c = run_through _ _ _ c.loop-i.invariant c.copied_run-k.ensures (omega arith) (omega arith) (omega (arith, c.if-k-lt32.false))

pub returns : goal.returns
returns c = run_join c.loop-i.invariant c.plain_tail.ensures
